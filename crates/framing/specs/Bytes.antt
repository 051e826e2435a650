-- Bits in bytes.
use Rattle.std.specs.Prelude.{ℕ, ◌<◌, Bool, List, [], ◌∷◌}
use Rattle.std.specs.List.{AllByRecursion}
use Rattle.fcs.specs.Fcs.{spelt}

-- bits in bytes, the first bit as bit 0 of the first byte; a last byte of fewer bits has 0 above them
abbrev pub bytes : List Bool → List ℕ
bytes [] = []
bytes (a ∷ []) = spelt (a ∷ []) ∷ []
bytes (a ∷ b ∷ []) = spelt (a ∷ b ∷ []) ∷ []
bytes (a ∷ b ∷ c ∷ []) = spelt (a ∷ b ∷ c ∷ []) ∷ []
bytes (a ∷ b ∷ c ∷ d ∷ []) = spelt (a ∷ b ∷ c ∷ d ∷ []) ∷ []
bytes (a ∷ b ∷ c ∷ d ∷ e ∷ []) = spelt (a ∷ b ∷ c ∷ d ∷ e ∷ []) ∷ []
bytes (a ∷ b ∷ c ∷ d ∷ e ∷ f ∷ []) = spelt (a ∷ b ∷ c ∷ d ∷ e ∷ f ∷ []) ∷ []
bytes (a ∷ b ∷ c ∷ d ∷ e ∷ f ∷ g ∷ []) = spelt (a ∷ b ∷ c ∷ d ∷ e ∷ f ∷ g ∷ []) ∷ []
bytes (a ∷ b ∷ c ∷ d ∷ e ∷ f ∷ g ∷ h ∷ more) = spelt (a ∷ b ∷ c ∷ d ∷ e ∷ f ∷ g ∷ h ∷ []) ∷ bytes more

-- every number of the list is a byte
abbrev pub Bytes : List ℕ → Type 0
Bytes g = AllByRecursion (λ b. b < 256) g
