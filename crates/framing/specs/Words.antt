-- A verdict in words.
use Rattle.std.specs.Prelude.{ℕ, List, codes}
use Rattle.framing.specs.declared.outcome.Verdict.{Verdict}
use Rattle.framing.specs.declared.outcome.Verdict.TheVariants.{Ignored, Bad, Good}

abbrev pub verdict_word : Verdict → List ℕ
verdict_word Ignored = codes "ignored"
verdict_word Bad = codes "bad"
verdict_word Good = codes "good"
