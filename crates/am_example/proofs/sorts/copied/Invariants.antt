use Rattle.std.proofs.Common.{◌≡◌, map, take, option_map}
use Rattle.am_example.proofs.sorts.copied.Given as goal

abbrev pub invariant-loop-text : goal.invariant-loop-text
invariant-loop-text l = l.copies ≡ map (option_map (λ text. text.now)) (take l.text-index l.texts)
