-- The counts of document 01 in its own signed numbers, in which the functions of one count promise their answers: "A count runs from -1 to
-- K + 1, and -1 means that no run is there." Read one higher they are the steps of Counting.
use Rattle.std.specs.Prelude.{cond, ℕ, ◌+◌, ℤ, pos, negsuc, ◌+ℤ◌, ◌-ℤ◌}
use Rattle.std.specs.Int.Signed.{lt_z}

-- -1
abbrev pub no_run : ℤ
no_run = negsuc 0

-- the lesser and the greater of two integers
unfoldable pub min_z : ℤ → ℤ → ℤ
min_z a b = cond (lt_z a b) a b

unfoldable pub max_z : ℤ → ℤ → ℤ
max_z a b = cond (lt_z a b) b a

-- "min(K + 1, count of p + mark of q)" for "a count other than -1"; where no run is, -1
unfoldable pub plus_signed : ℕ → ℕ → ℤ → ℤ
plus_signed K mark c = cond (lt_z c (pos 0)) no_run (min_z (pos (K + 1)) (c +ℤ pos mark))

-- "max(-1, count of q - mark of q)"
unfoldable pub less_signed : ℤ → ℕ → ℤ
less_signed c mark = max_z no_run (c -ℤ pos mark)

-- "byte q holding count + 1": the count of a byte
unfoldable pub one_lower : ℕ → ℤ
one_lower b = pos b -ℤ pos 1
