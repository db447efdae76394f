-- What the lists of a round are: each is its own tops, and its positions have eight counts. So each may be cut or widened by the next
-- letter. Assumes nothing.
use mathlib.Core.Path.{◌≡◌, refl}
use mathlib.Core.List.Memᴰ
use mathlib.Core.List.{List, ◌++◌, map}
use Prim.Native.Nat.{ℕ, zero, suc}
use Rattle.meaning.specs.Table.{Half, Table, on_output, on_input}
use Rattle.meaning.specs.Counting.{Position, back}
use Rattle.meaning.specs.Written.{position_bytes}
use Rattle.counts.proofs.Wide.{wide_length}
use Rattle.lists.proofs.Members.{Sized}
use Rattle.tops.specs.Tops.{tops, meets}
use Rattle.tops.proofs.Kept.{tops-one, append-sized, tops-sized}
use Rattle.tops.proofs.Meets.{meets-sized}
use Rattle.tops.proofs.SameTops.{tops-again}
use Rattle.sets.specs.Engine.{back_wide, cut_by, widen_by, brim, list_a, list_b}

-- a list that may be cut or widened
pub record Ready (l : List Position) : Type 0 where
  pub sized : Sized 8 l
  pub own : tops l ≡ l

-- the tops of a list of eight counts are ready
tops_ready : (l : List Position) → Sized 8 l → Ready (tops l)
tops_ready l s = record { sized = tops-sized 8 l s; own = tops-again 8 l s }

module _ (K : ℕ) (h : Half) where
  pub backs-sized : (Fs : List Position) → Sized 8 (map (back_wide K h) Fs)
  backs-sized Fs F m = let r = Memᴰ.of_map (back_wide K h) Fs m in rw (← r.2) (wide_length (back K h r.0))

  cut_ready : (ws vs : List Position) → Ready vs → Ready (cut_by K h ws vs)
  unfolding cut_by
  cut_ready ws vs r = tops_ready (meets vs (map (back_wide K h) ws)) (meets-sized 8 vs (map (back_wide K h) ws) r.sized)

  widen_ready : (vs bs : List Position) → Ready bs → Ready (widen_by K h vs bs)
  unfolding widen_by
  widen_ready vs bs r =
      tops_ready (bs ++ map (back_wide K h) vs) (append-sized 8 bs (map (back_wide K h) vs) r.sized (backs-sized vs))

-- the lists of A and of B
pub list_a_ready : (K : ℕ) (t : Table) (ws : List Position) (j : ℕ) → Ready (list_a K t ws j)
unfolding list_a
list_a_ready K t ws zero =
    record {
      sized = λ F m. rw (Memᴰ.eq_of_singleton m) (wide_length (brim K t.worlds));
      own = tops-one (position_bytes (brim K t.worlds));
    }
list_a_ready K t ws (suc j) = cut_ready K (on_input t j) ws (list_a K t ws j) (list_a_ready K t ws j)

pub list_b_ready : (K : ℕ) (t : Table) (vs : List Position) (k : ℕ) → Ready (list_b K t vs k)
unfolding list_b tops
list_b_ready K t vs zero = record { sized = λ F m. absurd (Memᴰ.not-nil m); own = refl }
list_b_ready K t vs (suc k) = widen_ready K (on_output t k) vs (list_b K t vs k) (list_b_ready K t vs k)
