-- The unit part: how many items it has, and where its faults stand.
use Rattle.std.proofs.Common.{◌≡◌, ◌≢◌, ◌∙◌, ◌+◌, ◌-◌, ◌<◌, ◌≤◌, ◌++◌, inl, inr, ℕ, ap, arith, List, [], ◌∷◌, Ok, Err, length, length-append, codes, map}
use Rattle.std.specs.List.{flat_map}
use Rattle.am_term.specs.declared.term.Term.{Term}
use Rattle.am_theory.specs.declared.theory.Theory.{Theory}
use Rattle.am_diagram.specs.declared.diagram.Diagram.{Diagram}
use Rattle.am_log.specs.Faults.{lines_in}
use Rattle.am_fortran.specs.declared.fault.UnitKind.{UnitKind}
use Rattle.am_fortran.specs.declared.statement.Decl.{Decl}
use Rattle.am_fortran.specs.declared.statement.Statement.{Statement}
use Rattle.am_fortran.specs.declared.statement.Statement.TheVariants.{Call, Assign, Apply}
use Rattle.am_fortran.specs.declared.unit.Unit.{Unit as Subroutine}
use Rattle.am_fortran.specs.Faults.{IsFault}
use Rattle.am_fortran.specs.Text.{line, with_commas, continued, with_list, operand_text, declaration_text, statement_text, head_text, unit_text}
use Rattle.am_exec.specs.declared.fault.ExecKind.TheVariants.{NoMemory}
use Rattle.am_exec.specs.declared.fault.ExecFault.{ExecFault}
use Rattle.am_exec.specs.Terms.{terms, IsAnswer}
use Rattle.am_check.specs.FirstFault.{item_line, end_item_number, IsProofOf, IsTextOf, HasBadRun, HasOtherTerms}
use Rattle.am_check.specs.Phases.{line_of_group, Leaves}
use Rattle.am_check.proofs.Counted.{groups_before, groups_start, groups_few}
use Rattle.am_check.proofs.Prefixes.{with-either}

some-line : (s : List ℕ) → 0 < length (line s)
unfolding line
some-line s = omega arith

some-more : (s more : List ℕ) → 0 < length (line s ++ more)
unfolding line
some-more s more = omega arith

some-list : (front : List ℕ) (ms : List (List ℕ)) → 0 < length (with_list front ms)
some-list front ms = with-either (λ z. 0 < length z) front ms (some-line (front ++ with_commas ms ++ codes ")")) (some-more front (continued ms))

some-declaration : (d : Decl) → 0 < length (declaration_text d)
unfolding declaration_text
some-declaration d = some-line _

some-statement : (s : Statement) → 0 < length (statement_text s)
unfolding statement_text
some-statement (Call r args) = some-list (codes "CALL " ++ r ++ codes "(") (map operand_text args)
some-statement (Assign t from) = some-line (t ++ codes " = " ++ operand_text from)
some-statement (Apply t f args) = some-list (t ++ codes " = " ++ f ++ codes "(") (map operand_text args)

longer : {A : Type 0} (f : A → List ℕ) → ((x : A) → 0 < length (f x)) → (xs : List A) → length xs ≤ length (flat_map f xs)
longer f h [] = omega arith
longer f h (x ∷ xs) =
    let e : length (flat_map f (x ∷ xs)) ≡ length (f x) + length (flat_map f xs) = length-append (f x) (flat_map f xs) in
    let g = h x in let k = longer f h xs in
    let l : length (x ∷ xs) ≡ 1 + length xs = omega arith in omega (arith, e, g, k, l)

pub few-items : (unit : List ℕ) (u : Subroutine) → IsTextOf unit u → length unit ≤ 16777216 → length u.declarations + length u.statements + 2 < 4294967295
unfolding unit_text
few-items unit u r h =
    let head = head_text u.name u.dummies in
    let ds = flat_map declaration_text u.declarations in
    let ss = flat_map statement_text u.statements in
    let a : length unit ≡ length (((head ++ ds) ++ ss) ++ line (codes "END")) = ap length r.text in
    let b = length-append ((head ++ ds) ++ ss) (line (codes "END")) in
    let c = length-append (head ++ ds) ss in
    let d = length-append head ds in
    let e = longer declaration_text some-declaration u.declarations in
    let f = longer statement_text some-statement u.statements in
    omega (arith, a, b, c, d, e, f, h)

pub fault-within : (unit : List ℕ) (l : ℕ) (kind : UnitKind) → IsFault unit l kind → l ≤ 1 + length unit
fault-within unit l kind f =
    let a : l ≡ 1 + groups_before f.place unit = f.begins ∙ groups_start f.place unit in
    let b = groups_few f.place unit in
    omega (arith, a, b)

pub leaves : (t : Theory) (d : Diagram) (unit : List ℕ) (run : Subroutine) (answer ts : List Term) → IsTextOf unit run → terms t d run ≡ Ok ts → ts ≡ answer → Leaves t d unit answer
leaves t d unit run answer ts r e s = record { run = run; read = r; gives = e ∙ ap Ok s }

begins-at : (unit : List ℕ) (before a b place item : ℕ) → a ≡ before → b ≡ line_of_group unit place → place ≡ item - 1 → a + b ≡ before + item_line unit item
begins-at unit before a b place item e f g = ap (λ (n : ℕ). n + b) e ∙ ap (λ (n : ℕ). before + n) (f ∙ ap (line_of_group unit) g)

pub other-terms : (t : Theory) (d : Diagram) (proof unit : List ℕ) (run : Subroutine) (answer ts : List Term) (a b m n : ℕ) → IsProofOf t d proof answer → IsTextOf unit run → terms t d run ≡ Ok ts → ts ≢ answer
    → a ≡ lines_in proof → m ≡ length run.declarations → n ≡ length run.statements → b ≡ line_of_group unit (m + n + 1) → HasOtherTerms t d proof unit (a + b)
other-terms t d proof unit run answer ts a b m n p r e s f i j g = record {
  answer = answer;
  proved = p;
  run = run;
  read = r;
  gives = ts;
  leaves = e;
  other = s;
  begins = begins-at unit (lines_in proof) a b (m + n + 1) (end_item_number run) f g (omega (arith, i, j));
}

pub bad-run : (t : Theory) (d : Diagram) (proof unit : List ℕ) (run : Subroutine) (answer : List Term) (fault : ExecFault) (a b k : ℕ) → IsProofOf t d proof answer → IsTextOf unit run → IsAnswer (Err fault) (terms t d run) → fault.kind ≢ NoMemory
    → a ≡ lines_in proof → k ≡ fault.item - 1 → b ≡ line_of_group unit k → HasBadRun t d proof unit (a + b) fault.kind
bad-run t d proof unit run answer fault a b k p r e n f i g = record {
  answer = answer;
  proved = p;
  run = run;
  read = r;
  item = fault.item;
  fault = elim e [ inl x ↦ absurd (n (ap (λ (z : ExecFault). z.kind) x)) | inr x ↦ x ];
  begins = begins-at unit (lines_in proof) a b k fault.item f g i;
}
