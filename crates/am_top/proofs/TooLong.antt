-- A file that has more bytes than a file may have.
use Rattle.std.proofs.Common.{◌≡◌, ◌<◌, ℕ, true, ap, arith, Err, List, length, nat_lt, refl}
use Rattle.std.proofs.lemmas.Bool.Decides.{nat_tests}
use Rattle.am_text.specs.declared.fault.TextKind.TheVariants.{TooLong}
use Rattle.am_text.specs.Scan.{read}
use Rattle.am_theory.specs.declared.theory.Theory.{Theory}
use Rattle.am_theory.specs.declared.fault.TheoryFault.{TheoryFault}
use Rattle.am_theory.specs.declared.fault.TheoryKind.TheVariants.{Text as TheoryText}
use Rattle.am_theory.specs.Limits.{file_limit, depth_limit}
use Rattle.am_theory.specs.Reading.{theory, text_theory}
use Rattle.am_diagram.specs.declared.fault.DiagramFault.{DiagramFault}
use Rattle.am_diagram.specs.declared.fault.DiagramKind.TheVariants.{Text as DiagramText}
use Rattle.am_diagram.specs.Reading.{diagram, text_diagram}

abbrev pub long_theory : TheoryFault
long_theory = record { place = file_limit; kind = TheoryText TooLong }

abbrev pub long_diagram : DiagramFault
long_diagram = record { place = file_limit; kind = DiagramText TooLong }

read-long : (limit depth : ℕ) (bytes : List ℕ) → nat_lt limit (length bytes) ≡ true → read limit depth bytes ≡ Err (record { place = limit; kind = TooLong })
unfolding read
read-long limit depth bytes h = rw h refl

is_long : (bytes : List ℕ) → file_limit < length bytes → nat_lt file_limit (length bytes) ≡ true
is_long bytes h = grind (arith, nat_tests)

pub theory-long : (bytes : List ℕ) → file_limit < length bytes → theory bytes ≡ Err long_theory
unfolding theory
theory-long bytes h = ap (text_theory (length bytes)) (read-long file_limit depth_limit bytes (is_long bytes h))

pub diagram-long : (t : Theory) (bytes : List ℕ) → file_limit < length bytes → diagram t bytes ≡ Err long_diagram
unfolding diagram
diagram-long t bytes h = ap (text_diagram t (length bytes)) (read-long file_limit depth_limit bytes (is_long bytes h))
