use Rattle.std.proofs.Common.{◌≡◌, length, ◌&&◌, find, option_map}
use Rattle.am_theory.specs.declared.theory.LiteralDecl.{LiteralDecl}
use Rattle.am_theory.specs.Lookups.{result_sort}
use Rattle.am_exec.specs.Literals.{literal_written, writes, sort_fits}
use Rattle.am_exec.proofs.lookups.literal_at.Given as goal

-- what is left decides
abbrev pub invariant-loop-rest : goal.invariant-loop-rest
invariant-loop-rest l = literal_written l.theory l.place l.operand ≡ option_map (λ (x : LiteralDecl). x.symbol) (find (λ (x : LiteralDecl). writes l.operand x.value && sort_fits l.theory (result_sort l.theory.sig x.symbol) l.place) l.rest)

abbrev pub decreases-loop-rest : goal.decreases-loop-rest
decreases-loop-rest l = length l.rest
