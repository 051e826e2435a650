-- The refusals by number and in words.
use Rattle.std.specs.Prelude.{◌≡◌, ℕ, List, codes}
use Rattle.refusal.specs.declared.Refusal.{Refusal}
use Rattle.refusal.specs.declared.Refusal.TheVariants.{
  AddressAboveThree,
  LevelAboveOne,
  EndAboveOne,
  TransmitterReset,
  UnderrunLatched,
  SendQueueFull,
  ReceiveQueueEmpty,
  ReceiveQueueHeld,
  LineFull,
  LineEmpty,
}

abbrev pub number_of : Refusal → ℕ
number_of AddressAboveThree = 1
number_of LevelAboveOne = 2
number_of EndAboveOne = 3
number_of TransmitterReset = 11
number_of UnderrunLatched = 12
number_of SendQueueFull = 13
number_of ReceiveQueueEmpty = 14
number_of ReceiveQueueHeld = 15
number_of LineFull = 16
number_of LineEmpty = 17

-- two refusals with one number are the same refusal
abbrev pub NumbersDiffer : Type 0
NumbersDiffer = (a b : Refusal) → number_of a ≡ number_of b → a ≡ b

-- what is printed
abbrev pub words_of : Refusal → List ℕ
words_of AddressAboveThree = codes "register address above 3"
words_of LevelAboveOne = codes "level above 1"
words_of EndAboveOne = codes "end above 1"
words_of TransmitterReset = codes "transmitter held in reset"
words_of UnderrunLatched = codes "underrun latched"
words_of SendQueueFull = codes "send queue full"
words_of ReceiveQueueEmpty = codes "receive queue empty"
words_of ReceiveQueueHeld = codes "receive queue held"
words_of LineFull = codes "line full"
words_of LineEmpty = codes "line empty"
