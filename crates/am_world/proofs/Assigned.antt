-- Each world has an assignment of members.
use Rattle.std.proofs.Common.{◌≡◌, ◌<◌, ℕ, Bool, true, false, refl, sym, arith, length, nat_lt, IsTrue, true≢false}
use Rattle.std.proofs.lemmas.Bool.Decides.{nat_tests}
use Rattle.am_term.specs.declared.id.SortId.{SortId}
use Rattle.am_term.specs.declared.signature.Signature.{Signature}
use Rattle.am_world.specs.Interpretation.{Interpretation, IsWorld}
use Rattle.am_world.specs.Value.{Assignment, IsAssignment}

-- some member for each variable
pub some_member : (sig : Signature) (w : Interpretation) → IsWorld sig w → (s : SortId) (b : Bool) → nat_lt s.0 (length sig.sorts) ≡ b → ℕ
some_member sig w world s true e = (world.inhabited s (below s.0 (length sig.sorts) e)).0
  where
    below : (m n : ℕ) → nat_lt m n ≡ true → m < n
    below m n e = grind (arith, nat_tests)
some_member sig w world s false e = 0

abbrev pub members_of : (sig : Signature) (w : Interpretation) → IsWorld sig w → Assignment
members_of sig w world n s = some_member sig w world s (nat_lt s.0 (length sig.sorts)) refl

pub members-assigned : (sig : Signature) (w : Interpretation) (world : IsWorld sig w) → IsAssignment sig w (members_of sig w world)
unfolding some_member
members-assigned sig w world n s low = by_test (nat_lt s.0 (length sig.sorts)) refl (is_below s.0 (length sig.sorts) low)
  where
    is_below : (m n : ℕ) → m < n → nat_lt m n ≡ true
    is_below m n h = grind (arith, nat_tests)

    by_test : (b : Bool) (e : nat_lt s.0 (length sig.sorts) ≡ b) → b ≡ true → IsTrue (w.dom s (some_member sig w world s b e))
    by_test true e is = (world.inhabited s _).1
    by_test false e is = absurd (true≢false (sym is))
