-- The laws that the proofs of the functions cite, the answer's bytes while they are laid down and what a call leaves; and that its bytes
-- say the whole answer, and that no second outcome fits.
pub mod Laid
pub mod Called
pub mod Whole
pub mod Demands
