-- What holds of each command that words ask for.
use Rattle.std.specs.Prelude.{◌≡◌, ◌≤◌, ◌<◌, List, Some}
use Rattle.am_words.specs.Grammar.{Text}
use Rattle.am_words.specs.Commands.{reading}
use Rattle.am_words.specs.declared.command.Command.{Command}
use Rattle.am_words.specs.declared.command.Command.TheVariants.{Make, Check, Theory, Demo}

-- the budget is 1 to 100,000, the weight 10 to 400, there are three choosers, and the size of a demonstration is 1 to 300
abbrev pub InRange : Command → Type 0
InRange (Make t d b w c) = ((1 ≤ b) × (b ≤ 100000)) × ((10 ≤ w) × (w ≤ 400)) × (c < 3)
InRange (Check t d x) = Unit {0}
InRange (Theory t) = Unit {0}
InRange (Demo k) = (1 ≤ k) × (k ≤ 300)

abbrev pub RangesHold : Type 0
RangesHold = (words : List Text) (command : Command) → reading words ≡ Some command → InRange command
