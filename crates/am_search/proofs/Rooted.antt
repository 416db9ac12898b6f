-- Each row names earlier rows alone.
use Rattle.std.specs.Prelude.{List, ℕ, slice_get, ◌≡◌, Some, ◌<◌, length, [], ◌∷◌, zero, suc, Bool, ◌==◌, None, ◌-◌, true, false, ◌≢◌, Option, ◌++◌, ◌+◌, if◌then◌else◌}
use Rattle.std.proofs.Common.{arith, refl, subst, sym}
use Rattle.std.proofs.lemmas.Bool.Decides.{nat_tests}
use Rattle.std.specs.List.{AllByRecursion}
use Rattle.am_clause.specs.Ancestors.{parents_of}
use Rattle.am_clause.specs.declared.clause.Clause.{Clause}
use Rattle.am_clause.specs.declared.row.Made.{Made}
use Rattle.am_clause.specs.declared.row.Row.{Row}
use Rattle.am_clause.specs.declared.row.Rule.{Rule}
use Rattle.am_search.proofs.Fewer.{numbered_push}
use Rattle.am_search.proofs.Replayed.{steps_law}
use Rattle.am_rules.specs.Conclusions.{factored, resolved, paramodulated, reflexed, rewritten, closed_off}
use Rattle.am_search.specs.Members.{row_at, Member, numbered_rows}
use Rattle.am_search.specs.Plain.{History, rows, Start, Then, Choose, Infer}
use Rattle.am_search.specs.Replay.{IsBelow, on, on_both, only_if, replay, IsRooted, HasNoParents, Logged, ParentsLaw}
use Rattle.am_term.specs.declared.id.SortId.{SortId}
use Rattle.am_term.specs.declared.signature.Signature.{Signature}
use Rattle.am_clause.specs.declared.row.Rule.TheVariants as R

get_within : (rs : List Row) (k : ℕ) (row : Row) → slice_get rs k ≡ Some row → k < length rs
get_within [] k row is = absurd (cc)
get_within (r ∷ rs) zero row is = omega arith
get_within (r ∷ rs) (suc k) row is = let less : k < length rs = get_within rs k row is in omega arith

within_on : (b : Bool) (rs : List Row) (n : ℕ) (row : Row) → (n == 0) ≡ b → (if b then None else slice_get rs (n - 1)) ≡ Some row → IsBelow (length rs) n
within_on true rs n row test is = absurd (cc)
within_on false rs n row test is =
    let less : n - 1 < length rs = get_within rs (n - 1) row is in
    let isnt : n ≢ 0 = grind (arith, nat_tests) in
    record { some = omega arith; low = omega arith }

pub at_within : (rs : List Row) (n : ℕ) (row : Row) → row_at rs n ≡ Some row → IsBelow (length rs) n
at_within rs n row is = within_on (n == 0) rs n row refl is

on_within : (rs : List Row) (n : ℕ) (o : Option Row) (f : Clause → Option Made) (m : Made) → row_at rs n ≡ o → on o f ≡ Some m → IsBelow (length rs) n
on_within rs n None f m at_ is = absurd (cc)
on_within rs n (Some row) f m at_ is = at_within rs n row at_

both_within : (rs : List Row) (n k : ℕ) (o e : Option Row) (f : Clause → Clause → Option Made) (m : Made) → row_at rs n ≡ o → row_at rs k ≡ e → on_both o e f ≡ Some m → IsBelow (length rs) n × IsBelow (length rs) k
both_within rs n k None e f m at_ to is = absurd (cc)
both_within rs n k (Some row) e f m at_ to is = (at_within rs n row at_, on_within rs k e (f row.clause) m to is)

only_then : (b : Bool) (o : Option Made) (m : Made) → only_if b o ≡ Some m → o ≡ Some m
only_then true o m is = is
only_then false o m is = absurd (cc)

-- a rule whose call answers names rows that are there
named : (sig : Signature) (ins : List SortId) (rs : List Row) (rule : Rule) (m : Made) → replay sig ins rs rule ≡ Some m → AllByRecursion (IsBelow (length rs)) (parents_of rule)
named sig ins rs (R.Axiom a k) m is = tt
named sig ins rs R.Goal m is = tt
named sig ins rs (R.Given k) m is = tt
named sig ins rs (R.Factor p i j) m is = (on_within rs p (row_at rs p) (λ g. factored sig ins g i j) m refl is, tt)
named sig ins rs (R.Reflex p i) m is = (on_within rs p (row_at rs p) (λ g. reflexed sig ins g i) m refl is, tt)
named sig ins rs (R.Resolve p i q j) m is =
    let r = both_within rs p q (row_at rs p) (row_at rs q) (λ g d. resolved sig ins g i d j) m refl refl is in (r.0, (r.1, tt))
named sig ins rs (R.Para p j side q i path) m is =
    let r = both_within rs p q (row_at rs p) (row_at rs q) (λ g d. paramodulated sig ins g j side d i path) m refl refl is in (r.0, (r.1, tt))
named sig ins rs (R.Rewrite p j side q i path) m is =
    let r = both_within rs p q (row_at rs p) (row_at rs q) (λ g d. rewritten sig ins g side d i path) m refl refl (only_then (j == 1) (on_both (row_at rs p) (row_at rs q) (λ g d. rewritten sig ins g side d i path)) m is) in (r.0, (r.1, tt))
named sig ins rs (R.Close p) m is = (on_within rs p (row_at rs p) (λ g. closed_off sig ins g) m refl is, tt)

rooted_push : (ms : List Member) (m : Member) → AllByRecursion IsRooted ms → IsRooted m → AllByRecursion IsRooted (ms ++ m ∷ [])
rooted_push [] m a b = (b, tt)
rooted_push (x ∷ ms) m a b = (a.0, rooted_push ms m a.1 b)

rooted_start : (n : ℕ) (start : List Row) → AllByRecursion HasNoParents start → AllByRecursion IsRooted (numbered_rows n start)
rooted_start n [] a = tt
rooted_start n (r ∷ start) a = (subst (λ (ps : List ℕ). AllByRecursion (IsBelow (n - 1)) ps) (sym a.0) tt, rooted_start (n + 1) start a.1)

rooted_all : (sig : Signature) (ins : List SortId) (start : List Row) (h : History) → AllByRecursion HasNoParents start → Logged sig ins start h → AllByRecursion IsRooted (numbered_rows 1 (rows start h))
rooted_all sig ins start Start a l = rooted_start 1 start a
rooted_all sig ins start (Then h (Choose n)) a l = rooted_all sig ins start h a l
rooted_all sig ins start (Then h (Infer row)) a l =
    let rs : List Row = rows start h in
    let same : length rs ≡ (1 + length rs) - 1 = omega arith in
    subst (λ (ms : List Member). AllByRecursion IsRooted ms) (sym (numbered_push 1 rs row))
    (rooted_push (numbered_rows 1 rs) (record { number = 1 + length rs; row = row }) (rooted_all sig ins start h a l.1)
    (subst (λ (k : ℕ). AllByRecursion (IsBelow k) (parents_of row.rule)) same (named sig ins rs row.rule (record { clause = row.clause; with = row.with }) l.0)))

pub parents_law : ParentsLaw
parents_law sig ins most axioms starting start h a f = rooted_all sig ins start h a (steps_law sig ins most axioms starting start h f)
