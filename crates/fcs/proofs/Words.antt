-- Words of the logic that the code's own proofs unfold.
pub use mathlib.Core.Bool.{xor}
