-- Features that are put together, and that a clause which subsumes another has none that the other lacks.
use Rattle.std.proofs.Common.{◌≡◌, ◌∙◌, ◌==◌, ◌&&◌, ◌||◌, ◌/◌, ℕ, Bool, true, false, refl, sym, ap, subst, arith, Option, Some, None, List, [], ◌∷◌, length, map, nat_le, bit_or, if◌then◌else◌}
use Rattle.std.specs.Bool.{beq}
use Rattle.std.specs.List.{list_any}
use Rattle.std.proofs.lemmas.Bool.Decides.{nat_tests}
use Rattle.std.proofs.lemmas.Grind.{common_steps}
use Rattle.std.proofs.lemmas.Nat.{or_comm, or_shr}
use lib.Arith.{bin_ind}
use lib.Bits.{or_self, or_step, or_zero_l, or_zero_r}
use Rattle.am_term.specs.Induct.{term_induct}
use Rattle.am_term.specs.Weight.{nodes_laws}
use Rattle.am_term.specs.declared.id.SortId.{SortId}
use Rattle.am_term.specs.declared.id.SymId.{SymId}
use Rattle.am_term.specs.declared.signature.Signature.{Signature}
use Rattle.am_term.specs.declared.term.Atom.{Atom}
use Rattle.am_term.specs.declared.term.Atom.TheVariants.{Rel, Eq}
use Rattle.am_term.specs.declared.term.Literal.{Literal}
use Rattle.am_term.specs.declared.term.Term.{Term}
use Rattle.am_term.specs.declared.term.Term.TheOpen.{Term-F}
use Rattle.am_term.specs.declared.term.Term.TheVariants.{Var, In, App}
use Rattle.am_term.specs.declared.term.Term.TheViews.{out-Term, the_lemmas}
use Rattle.am_term.proofs.Alike.{same_term-sound}
use Rattle.am_term.proofs.Instances.{nodes-positive}
use Rattle.am_term.proofs.Tests.{and_left, and_right}
use Rattle.am_term.specs.Same.{same_term-In, all_pass}
use Rattle.am_clause.specs.declared.clause.Clause.{Clause}
use Rattle.am_rules.proofs.Standing.{never}
use Rattle.am_unify.proofs.Standing.{number_is, number_same}
use Rattle.am_unify.proofs.Steps.{is_app}
use Rattle.am_simplify.specs.Agreement.{term_agrees, agree-In, agree-App, is_headed}
use Rattle.am_simplify.specs.Features.{answer_features, are_within, atom_features, bit_of, clause_features, features, features-App, features-Var, features_laws, headed, headed_features, joined_features, literal_features, literals_features, place_with, sign_place}
use Rattle.am_simplify.specs.Subsuming.{Bindings, Goal, covers, match_answer, match_atom, match_literal, match_terms, meets, subsumed_by}
use Rattle.am_simplify.proofs.Unmatched.{all-unmatched}

-- the order of two `|` is free
pub or_assoc : (c a b : ℕ) → bit_or (bit_or a b) c ≡ bit_or a (bit_or b c)
or_assoc =
    bin_ind (λ (c : ℕ). (a b : ℕ) → bit_or (bit_or a b) c ≡ bit_or a (bit_or b c)) (λ a b. or_zero_r (bit_or a b) ∙ sym (ap (bit_or a) (or_zero_r b)))
    (λ c ih a b.
    let p : bit_or (bit_or a b / 2) (c / 2) ≡ bit_or (a / 2) (bit_or b c / 2) = ap (λ x. bit_or x (c / 2)) (or_shr a b 1) ∙ ih (a / 2) (b / 2) ∙ sym (ap (bit_or (a / 2)) (or_shr b c 1)) in
    omega (arith, or_step (bit_or a b) c, or_step a (bit_or b c), or_step a b, or_step b c))

-- the second number has each bit of the first
abbrev Within : ℕ → ℕ → Type 0
Within m n = bit_or m n ≡ n

-- two numbers within one
both-within : (a b n : ℕ) → Within a n → Within b n → Within (bit_or a b) n
both-within a b n h k = or_assoc n a b ∙ (ap (bit_or a) k ∙ h)

left-within : (m a b : ℕ) → Within m a → Within m (bit_or a b)
left-within m a b h = sym (or_assoc b m a) ∙ ap (λ x. bit_or x b) h

right-within : (m a b : ℕ) → Within m b → Within m (bit_or a b)
right-within m a b h = ap (bit_or m) (or_comm a b) ∙ (left-within m b a h ∙ or_comm b a)

each-within : (a b x y : ℕ) → Within a x → Within b y → Within (bit_or a b) (bit_or x y)
each-within a b x y h k = both-within a b (bit_or x y) (left-within a x y h) (right-within b x y k)

-- ---- terms

abbrev TermWithin : Term → Type 0
TermWithin t = (u : Term) (place : ℕ) → term_agrees t u ≡ true → Within (features t place) (features u place)

abbrev AllWithin : List Term → Type 0
AllWithin ts = (us : List Term) (place : ℕ) → all_pass (map term_agrees ts) us ≡ true → Within (joined_features place (map features ts)) (joined_features place (map features us))

variable-within : (n : ℕ) (s : SortId) → TermWithin (Var n s)
variable-within n s u place e = ap (λ m. bit_or m (features u place)) (features-Var n s place) ∙ or_zero_l (features u place)

input-within : (k : ℕ) → TermWithin (In k)
input-within k u place e =
    let one : In k ≡ u = same_term-sound (In k) u (same_term-In k u ∙ (sym (agree-In k u) ∙ e)) in
    ap (λ t. bit_or (features (In k) place) (features t place)) (sym one) ∙ (or_self (features (In k) place) ∙ ap (λ t. features t place) one)

application-within : (f : SymId) (args : List Term) → AllWithin args → TermWithin (App f args)
application-within f args h u place e = by_kind (out-Term u) refl (sym (agree-App f args u) ∙ e)
  where
    by_count : (g : SymId) (us : List Term) → u ≡ App g us → (f.0 == g.0 && all_pass (map term_agrees args) us) ≡ true → Within (features (App f args) place) (features u place)
    by_count g us is e =
        let symbols : f.0 ≡ g.0 = number_is f.0 g.0 (and_left (f.0 == g.0) (all_pass (map term_agrees args) us) e) in
        let here : ℕ = place_with (place_with place 2) f.0 in
        let own : features (App f args) place ≡ headed_features here args = features-App f args place in
        let other : features u place ≡ headed_features here us =
        ap (λ t. features t place) is ∙ (features-App g us place ∙ ap (λ n. headed_features (place_with (place_with place 2) n) us) (sym symbols)) in
        let all : Within (headed_features here args) (headed_features here us) =
        each-within (bit_of here) (joined_features here (map features args)) (bit_of here) (joined_features here (map features us)) (or_self (bit_of here)) (h us here (and_right (f.0 == g.0) (all_pass (map term_agrees args) us) e)) in
        ap (λ m. bit_or m (features u place)) own ∙ (ap (bit_or (headed_features here args)) other ∙ (all ∙ sym other))

    by_kind : (x : Term-F Term) → out-Term u ≡ x → is_headed f (map term_agrees args) x ≡ true → Within (features (App f args) place) (features u place)
    by_kind (Term-F.Var n s) is e = never e
    by_kind (Term-F.In k) is e = never e
    by_kind (Term-F.App g us) is e = by_count g us (is_app u g us is) e

none-within : AllWithin []
none-within us place e = or_zero_l (joined_features place (map features us))

more-within : (t : Term) (ts : List Term) → TermWithin t → AllWithin ts → AllWithin (t ∷ ts)
more-within t ts h k [] place e = never e
more-within t ts h k (u ∷ us) place e =
    each-within (features t place) (joined_features (place_with place 3) (map features ts)) (features u place) (joined_features (place_with place 3) (map features us))
    (h u place (and_left (term_agrees t u) (all_pass (map term_agrees ts) us) e))
    (k us (place_with place 3) (and_right (term_agrees t u) (all_pass (map term_agrees ts) us) e))

term-within : (t : Term) → TermWithin t
term-within = term_induct TermWithin AllWithin variable-within input-within application-within none-within more-within

all-within : (ts : List Term) → AllWithin ts
all-within [] = none-within
all-within (t ∷ ts) = more-within t ts (term-within t) (all-within ts)

-- ---- clauses

module _ (sig : Signature) (ins : List SortId) where
  -- terms that are matched agree
  matched-agree : (ts us : List Term) (bs cs : Bindings) → match_terms sig ins ts us bs ≡ Some cs → all_pass (map term_agrees ts) us ≡ true
  matched-agree ts us bs cs e = by (all_pass (map term_agrees ts) us) refl
    where
      some-none : {A : Type 0} → Some cs ≡ None → A
      some-none e = absurd cc

      by : (b : Bool) → all_pass (map term_agrees ts) us ≡ b → b ≡ true
      by true is = refl
      by false is = some-none (sym e ∙ all-unmatched sig ins ts us bs is)

  terms-within : (place : ℕ) (ts us : List Term) (bs cs : Bindings) → match_terms sig ins ts us bs ≡ Some cs → Within (headed_features place ts) (headed_features place us)
  terms-within place ts us bs cs e =
      each-within (bit_of place) (joined_features place (map features ts)) (bit_of place) (joined_features place (map features us)) (or_self (bit_of place))
      (all-within ts us place (matched-agree ts us bs cs e))

  atom-within : (place : ℕ) (a b : Atom) (bs cs : Bindings) → match_atom sig ins a b bs ≡ Some cs → Within (atom_features place a) (atom_features place b)
  atom-within place (Rel r ps) (Rel q ts) bs cs e = by_symbol (r.0 == q.0) refl e
    where
      by_symbol : (b : Bool) → (r.0 == q.0) ≡ b → (if b then match_terms sig ins ps ts bs else None) ≡ Some cs → Within (atom_features place (Rel r ps)) (atom_features place (Rel q ts))
      by_symbol false is e = absurd cc
      by_symbol true is e =
          subst (λ n. Within (headed_features (place_with (place_with place 4) r.0) ps) (headed_features (place_with (place_with place 4) n) ts)) (number_is r.0 q.0 is)
          (terms-within (place_with (place_with place 4) r.0) ps ts bs cs e)
  atom-within place (Rel r ps) (Eq left right) bs cs e = absurd cc
  atom-within place (Eq left right) (Rel q ts) bs cs e = absurd cc
  atom-within place (Eq left right) (Eq first second) bs cs e = terms-within (place_with place 6) (left ∷ right ∷ []) (first ∷ second ∷ []) bs cs e

  literal-within : (l m : Literal) (bs cs : Bindings) → match_literal sig ins l m bs ≡ Some cs → Within (literal_features l) (literal_features m)
  literal-within l m bs cs e = by_sign l.positive m.positive e
    where
      by_sign : (p q : Bool) → (if beq p q then match_atom sig ins l.atom m.atom bs else None) ≡ Some cs → Within (atom_features (sign_place p) l.atom) (atom_features (sign_place q) m.atom)
      by_sign true true e = atom-within (sign_place true) l.atom m.atom bs cs e
      by_sign true false e = absurd cc
      by_sign false true e = absurd cc
      by_sign false false e = atom-within (sign_place false) l.atom m.atom bs cs e

  -- bindings after one of the literals is matched, which meet the goal
  record IsCovered (l : Literal) (goal : Goal) (ms : List Literal) : Type 0 where
    later : Bindings
    met : goal later ≡ true
    within : Within (literal_features l) (literals_features ms)

  one-covered : (l : Literal) (goal : Goal) (bs : Bindings) (ms : List Literal) → list_any (λ m. meets (match_literal sig ins l m bs) goal) ms ≡ true → IsCovered l goal ms
  one-covered l goal bs [] e = never e
  one-covered l goal bs (m ∷ ms) e = by_match (match_literal sig ins l m bs) refl e (one-covered l goal bs ms)
    where
      further : IsCovered l goal ms → IsCovered l goal (m ∷ ms)
      further k = record { later = k.later; met = k.met; within = right-within (literal_features l) (literal_features m) (literals_features ms) k.within }

      by_goal : (cs : Bindings) → match_literal sig ins l m bs ≡ Some cs → (b : Bool) → goal cs ≡ b → (b || list_any (λ m. meets (match_literal sig ins l m bs) goal) ms) ≡ true
          → (list_any (λ m. meets (match_literal sig ins l m bs) goal) ms ≡ true → IsCovered l goal ms) → IsCovered l goal (m ∷ ms)
      by_goal cs is true met e next = record { later = cs; met = met; within = left-within (literal_features l) (literal_features m) (literals_features ms) (literal-within l m bs cs is) }
      by_goal cs is false met e next = further (next e)

      by_match : (o : Option Bindings) → match_literal sig ins l m bs ≡ o → (meets o goal || list_any (λ m. meets (match_literal sig ins l m bs) goal) ms) ≡ true
          → (list_any (λ m. meets (match_literal sig ins l m bs) goal) ms ≡ true → IsCovered l goal ms) → IsCovered l goal (m ∷ ms)
      by_match None is e next = further (next e)
      by_match (Some cs) is e next = by_goal cs is (goal cs) refl e next

  literals-within : (ls all : List Literal) (bs : Bindings) → covers sig ins ls all bs ≡ true → Within (literals_features ls) (literals_features all)
  literals-within [] all bs e = or_zero_l (literals_features all)
  literals-within (l ∷ ls) all bs e =
      let k : IsCovered l (covers sig ins ls all) all = one-covered l (covers sig ins ls all) bs all e in
      both-within (literal_features l) (literals_features ls) (literals_features all) k.within (literals-within ls all k.later k.met)

  clause-within : (d c : Clause) → subsumed_by sig ins d c ≡ true → Within (clause_features d) (clause_features c)
  clause-within d c e = by_answer d.answer c.answer (and_right (nat_le (length d.literals) (length c.literals)) (meets (match_answer sig ins d.answer c.answer) (covers sig ins d.literals c.literals)) e)
    where
      by_match : (ts us : List Term) (o : Option Bindings) → match_terms sig ins ts us [] ≡ o → meets o (covers sig ins d.literals c.literals) ≡ true
          → Within (bit_or (headed_features 11 ts) (literals_features d.literals)) (bit_or (headed_features 11 us) (literals_features c.literals))
      by_match ts us None is e = never e
      by_match ts us (Some bs) is e =
          each-within (headed_features 11 ts) (literals_features d.literals) (headed_features 11 us) (literals_features c.literals) (terms-within 11 ts us [] bs is) (literals-within d.literals c.literals bs e)

      by_answer : (o u : Option (List Term)) → meets (match_answer sig ins o u) (covers sig ins d.literals c.literals) ≡ true
          → Within (bit_or (answer_features o) (literals_features d.literals)) (bit_or (answer_features u) (literals_features c.literals))
      by_answer None u e =
          each-within 0 (literals_features d.literals) (answer_features u) (literals_features c.literals) (or_zero_l (answer_features u)) (literals-within d.literals c.literals [] e)
      by_answer (Some ts) None e = never e
      by_answer (Some ts) (Some us) e = by_match ts us (match_terms sig ins ts us []) refl e

  -- a clause with a feature that the other lacks doesn't subsume it
  pub not-subsumed : (d c : Clause) → are_within (clause_features d) (clause_features c) ≡ false → subsumed_by sig ins d c ≡ false
  not-subsumed d c e = by (subsumed_by sig ins d c) refl
    where
      by : (b : Bool) → subsumed_by sig ins d c ≡ b → b ≡ false
      by false is = refl
      by true is =
          let same : are_within (clause_features d) (clause_features c) ≡ true = ap (λ n. n == clause_features c) (clause-within d c is) ∙ number_same (clause_features c) in
          sym same ∙ e

pub ruleset featuring = (common_steps, nat_tests, the_lemmas, features_laws, nodes_laws, nodes-positive, or_assoc, or_zero_r, or_zero_l)

pub ruleset testing = (common_steps, not-subsumed)
