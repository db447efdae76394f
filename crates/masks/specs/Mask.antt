-- How a set of states stands in eight bits.
use Rattle.std.specs.Prelude.{Bool, cond, ℕ, zero, suc, ◌+◌, ◌*◌}

-- the number whose bit q, below n, is set where f holds of q
unfoldable pub mask : ℕ → (ℕ → Bool) → ℕ
mask zero f = 0
mask (suc n) f = mask n (λ q. f (suc q)) * 2 + cond (f zero) 1 0
