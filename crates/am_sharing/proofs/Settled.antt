-- What was matched is settled: under more bindings too it is matched with its own term alone, and binds nothing more.
use Rattle.std.proofs.Common.{◌≡◌, ◌==◌, ◌&&◌, ◌<◌, ◌∙◌, ℕ, Bool, true, false, true≢false, List, [], ◌∷◌, Option, Some, None, refl, sym, ap, subst, cond, map, length, arith, nat_eq, nat_lt, if◌then◌else◌}
use Rattle.std.proofs.lemmas.Bool.Decides.{nat_tests}
use Rattle.std.proofs.lemmas.List.{length-map}
use Rattle.std.specs.HashMap.{HashMap, IsEmpty, get}
use Rattle.std.specs.Map.{lookup}
use Rattle.am_term.specs.declared.id.SortId.{SortId}
use Rattle.am_term.specs.declared.id.SymId.{SymId}
use Rattle.am_term.specs.declared.signature.Signature.{Signature}
use Rattle.am_term.specs.declared.term.Term.{Term}
use Rattle.am_term.specs.declared.term.Term.TheOpen.{Term-F}
use Rattle.am_term.specs.declared.term.Term.TheViews.{out-Term}
use Rattle.am_term.specs.declared.term.Term.TheVariants.{Var, In, App}
use Rattle.am_term.specs.Induct.{term_induct}
use Rattle.am_term.specs.Same.{is_in, is_app, same_term, same_terms, same_term-In, same_term-App}
use Rattle.am_term.specs.Sorting.{sort_of, fits_place}
use Rattle.am_term.proofs.Alike.{same_term-refl, same_term-sound}
use Rattle.am_unify.specs.Matching.{held, and_then, match_all, bind_held, match_app, matched, matched-Var, matched-In, matched-App}
use Rattle.am_unify.specs.Substitution.{insert_binding}
use Rattle.am_unify.proofs.Matched.{all-count}
use Rattle.am_unify.proofs.Steps.{is_app as is_application}
use Rattle.am_bank.specs.declared.id.TermId.{TermId}
use Rattle.am_bank.specs.Node.{Shared}
use Rattle.am_bank.specs.Bank.{IsBank}
use Rattle.am_sharing.specs.Pairs.{pairs_at, answer_at}
use Rattle.am_sharing.specs.Settled.{HoldAll, IsSettled, AreSettled, AnswerSettled}
use Rattle.am_sharing.specs.Terms.{term_at}
use Rattle.am_sharing.proofs.Nodes.{number-same, same-id}

-- bindings that hold more
hold-same : (bs : List (ℕ × Term)) → HoldAll bs bs
hold-same bs n t b e = e

hold-on : (bs cs ds : List (ℕ × Term)) → HoldAll bs cs → HoldAll cs ds → HoldAll bs ds
hold-on bs cs ds h k n t b e = k n t b (h n t b e)

-- a number that is held with a term isn't held with another
held-other : (n : ℕ) (t u : Term) (bs : List (ℕ × Term)) → held bs n t ≡ Some true → held bs n u ≡ Some (same_term t u)
held-other n t u [] e = absurd cc
held-other n t u (b ∷ bs) e = by_test (held-other n t u bs) (b.0 == n) e
  where
    by_test : (held bs n t ≡ Some true → held bs n u ≡ Some (same_term t u)) → (c : Bool) → (if c then Some (same_term b.1 t) else held bs n t) ≡ Some true → (if c then Some (same_term b.1 u) else held bs n u) ≡ Some (same_term t u)
    by_test h true d =
        let one : same_term b.1 t ≡ true = cc in
        ap (λ (x : Term). Some (same_term x u)) (same_term-sound b.1 t one)
    by_test h false d = h d

-- one that isn't held with a term is held with none
held-none : (n : ℕ) (t u : Term) (bs : List (ℕ × Term)) → held bs n t ≡ None → held bs n u ≡ None
held-none n t u [] e = refl
held-none n t u (b ∷ bs) e = by_test (held-none n t u bs) (b.0 == n) e
  where
    by_test : (held bs n t ≡ None → held bs n u ≡ None) → (c : Bool) → (if c then Some (same_term b.1 t) else held bs n t) ≡ None → (if c then Some (same_term b.1 u) else held bs n u) ≡ None
    by_test h true d = absurd cc
    by_test h false d = h d

-- one more binding is held
module _ (n : ℕ) (t : Term) where
  first-held : (bs : List (ℕ × Term)) → held ((n, t) ∷ bs) n t ≡ Some true
  first-held bs = ap (λ (c : Bool). if c then Some (same_term t t) else held bs n t) (number-same n n refl) ∙ ap Some (same_term-refl t)

  held-inserted : (bs : List (ℕ × Term)) → held bs n t ≡ None → held (insert_binding n t bs) n t ≡ Some true
  held-inserted [] e = first-held []
  held-inserted (b ∷ bs) e = by_test (held-inserted bs) (nat_lt b.0 n) (b.0 == n) refl e
    where
      by_test : (held bs n t ≡ None → held (insert_binding n t bs) n t ≡ Some true) → (l c : Bool) → (b.0 == n) ≡ c → (if c then Some (same_term b.1 t) else held bs n t) ≡ None → held (if l then b ∷ insert_binding n t bs else (n, t) ∷ b ∷ bs) n t ≡ Some true
      by_test h true true is d = absurd cc
      by_test h true false is d = ap (λ (c : Bool). if c then Some (same_term b.1 t) else held (insert_binding n t bs) n t) is ∙ h d
      by_test h false c is d = first-held (b ∷ bs)

  -- and what else is held stays
  held-kept : (m : ℕ) (u : Term) → (n == m) ≡ false → (bs : List (ℕ × Term)) → held (insert_binding n t bs) m u ≡ held bs m u
  held-kept m u other [] = ap (λ (c : Bool). if c then Some (same_term t u) else None) other
  held-kept m u other (b ∷ bs) = by_test (held-kept m u other bs) (nat_lt b.0 n)
    where
      by_test : held (insert_binding n t bs) m u ≡ held bs m u → (l : Bool) → held (if l then b ∷ insert_binding n t bs else (n, t) ∷ b ∷ bs) m u ≡ held (b ∷ bs) m u
      by_test h true = ap (λ (o : Option Bool). if b.0 == m then Some (same_term b.1 u) else o) h
      by_test h false = ap (λ (c : Bool). if c then Some (same_term t u) else held (b ∷ bs) m u) other

  hold-more : (bs : List (ℕ × Term)) → held bs n t ≡ None → HoldAll bs (insert_binding n t bs)
  hold-more bs none m u b e = by_test (n == m) refl
    where
      by_test : (c : Bool) → (n == m) ≡ c → held (insert_binding n t bs) m u ≡ Some b
      by_test true is =
          let one : n ≡ m = grind (arith, nat_tests) in
          let two : held bs m u ≡ None = subst (λ (k : ℕ). held bs k u ≡ None) one (held-none n t u bs none) in
          absurd cc
      by_test false is = held-kept m u is bs ∙ e

module _ (sig : Signature) (ins : List SortId) where
  -- patterns are settled as these terms
  abbrev AllSettled : List (ℕ × Term) → List Term → List Term → Type 0
  AllSettled bs ps ts = (cs : List (ℕ × Term)) → HoldAll bs cs → (us : List Term) → match_all (map (matched sig ins) ps) us cs ≡ (if same_terms ts us then Some cs else None)

  abbrev Settles : Term → Type 0
  Settles p = (t : Term) (bs cs : List (ℕ × Term)) → matched sig ins p t bs ≡ Some cs → HoldAll bs cs × IsSettled sig ins cs p t

  abbrev SettleAll : List Term → Type 0
  SettleAll ps = (ts : List Term) (bs cs : List (ℕ × Term)) → match_all (map (matched sig ins) ps) ts bs ≡ Some cs → HoldAll bs cs × AllSettled cs ps ts

  variable-settled : (n : ℕ) (s : SortId) (t : Term) (bs : List (ℕ × Term)) → held bs n t ≡ Some true → IsSettled sig ins bs (Var n s) t
  variable-settled n s t bs h cs more u =
      matched-Var sig ins n s u cs ∙ ap (bind_held sig ins n s u cs) (more n u (same_term t u) (held-other n t u bs h)) ∙ by_test (same_term t u)
    where
      by_test : (b : Bool) → bind_held sig ins n s u cs (Some b) ≡ (if b then Some cs else None)
      by_test true = refl
      by_test false = refl

  module _ (n : ℕ) (s : SortId) (t : Term) (bs cs : List (ℕ × Term)) where
    abbrev Bound : List (ℕ × Term) → Type 0
    Bound ds = HoldAll bs ds × IsSettled sig ins ds (Var n s) t

    fresh-bound : held bs n t ≡ None → (c : Bool) → (if c then Some (insert_binding n t bs) else None) ≡ Some cs → Bound cs
    fresh-bound h true e =
        let is : insert_binding n t bs ≡ cs = cc in
        subst Bound is (hold-more n t bs h, variable-settled n s t (insert_binding n t bs) (held-inserted n t bs h))
    fresh-bound h false e = absurd cc

    bound : (o : Option Bool) → held bs n t ≡ o → bind_held sig ins n s t bs o ≡ Some cs → Bound cs
    bound (Some true) h e = let is : bs ≡ cs = cc in subst Bound is (hold-same bs, variable-settled n s t bs h)
    bound (Some false) h e = absurd cc
    bound None h e = fresh-bound h (fits_place sig (sort_of sig ins t) s) e

  variable-settles : (n : ℕ) (s : SortId) → Settles (Var n s)
  variable-settles n s t bs cs e = bound n s t bs cs (held bs n t) refl (sym (matched-Var sig ins n s t bs) ∙ e)

  module _ (k : ℕ) (t : Term) (bs : List (ℕ × Term)) where
    input-settled : In k ≡ t → IsSettled sig ins bs (In k) t
    input-settled is ds more u = matched-In sig ins k u ds ∙ ap (λ (c : Bool). if c then Some ds else None) (sym (same_term-In k u) ∙ ap (λ (x : Term). same_term x u) is)

    input-tested : (cs : List (ℕ × Term)) (c : Bool) → is_in k (out-Term t) ≡ c → (if c then Some bs else None) ≡ Some cs → HoldAll bs cs × IsSettled sig ins cs (In k) t
    input-tested cs true h d =
        let is : bs ≡ cs = cc in
        subst (λ (ds : List (ℕ × Term)). HoldAll bs ds × IsSettled sig ins ds (In k) t) is (hold-same bs, input-settled (same_term-sound (In k) t (same_term-In k t ∙ h)))
    input-tested cs false h d = absurd cc

  input-settles : (k : ℕ) → Settles (In k)
  input-settles k t bs cs e = input-tested k t bs cs (is_in k (out-Term t)) refl (sym (matched-In sig ins k t bs) ∙ e)

  module _ (f : SymId) (ps : List Term) where
    abbrev Head : Term-F Term → List (ℕ × Term) → Option (List (ℕ × Term))
    Head = match_app sig ins f (map (matched sig ins) ps)

    -- the arguments are settled, so the application is
    head-settled : (g : SymId) (ts : List Term) (cs ds : List (ℕ × Term)) → f.0 ≡ g.0 → AllSettled cs ps ts → HoldAll cs ds → (x : Term-F Term) → Head x ds ≡ (if is_app g (map same_term ts) x then Some ds else None)
    head-settled g ts cs ds is all more (Term-F.Var m r) = refl
    head-settled g ts cs ds is all more (Term-F.In j) = refl
    head-settled g ts cs ds is all more (Term-F.App j us) = by_symbol (f.0 == j.0) refl (length (map (matched sig ins) ps) == length us) refl
      where
        by_symbol : (a : Bool) → (f.0 == j.0) ≡ a → (b : Bool) → (length (map (matched sig ins) ps) == length us) ≡ b → (if a && b then match_all (map (matched sig ins) ps) us ds else None) ≡ (if g.0 == j.0 && same_terms ts us then Some ds else None)
        by_symbol true d true k = all ds more us ∙ ap (λ (c : Bool). if c && same_terms ts us then Some ds else None) (sym d ∙ ap (λ (i : ℕ). i == j.0) is)
        by_symbol true d false k =
            sym (all-count sig ins ps us ds (λ e. true≢false (sym (number-same (length (map (matched sig ins) ps)) (length us) (length-map ps (matched sig ins) ∙ e)) ∙ k)))
            ∙ all ds more us ∙ ap (λ (c : Bool). if c && same_terms ts us then Some ds else None) (sym d ∙ ap (λ (i : ℕ). i == j.0) is)
        by_symbol false d b k = ap (λ (c : Bool). if c && same_terms ts us then Some ds else None) (sym d ∙ ap (λ (i : ℕ). i == j.0) is)

    application-settled : (t : Term) (g : SymId) (ts : List Term) (cs : List (ℕ × Term)) → f.0 ≡ g.0 → t ≡ App g ts → AllSettled cs ps ts → IsSettled sig ins cs (App f ps) t
    application-settled t g ts cs is are all ds more u =
        matched-App sig ins f ps u ds ∙ head-settled g ts cs ds is all more (out-Term u)
        ∙ ap (λ (c : Bool). if c then Some ds else None) (sym (same_term-App g ts u) ∙ ap (λ (x : Term). same_term x u) (sym are))

    application-settles : SettleAll ps → Settles (App f ps)
    application-settles h t bs cs e = by_kind (out-Term t) refl (sym (matched-App sig ins f ps t bs) ∙ e)
      where
        by_test : (g : SymId) (ts : List Term) → t ≡ App g ts → (a b : Bool) → (f.0 == g.0) ≡ a → (if a && b then match_all (map (matched sig ins) ps) ts bs else None) ≡ Some cs → HoldAll bs cs × IsSettled sig ins cs (App f ps) t
        by_test g ts is true true same d =
            let all = h ts bs cs d in
            let one : f.0 ≡ g.0 = grind (arith, nat_tests) in
            (all.0, application-settled t g ts cs one is all.1)
        by_test g ts is true false same d = absurd cc
        by_test g ts is false b same d = absurd cc

        by_kind : (x : Term-F Term) → out-Term t ≡ x → Head x bs ≡ Some cs → HoldAll bs cs × IsSettled sig ins cs (App f ps) t
        by_kind (Term-F.Var m r) is d = absurd cc
        by_kind (Term-F.In j) is d = absurd cc
        by_kind (Term-F.App g ts) is d = by_test g ts (is_application t g ts is) (f.0 == g.0) (length (map (matched sig ins) ps) == length ts) refl d

  none-settle : SettleAll []
  none-settle [] bs cs e =
      let is : bs ≡ cs = cc in
      subst (λ (ds : List (ℕ × Term)). HoldAll bs ds × AllSettled ds [] []) is (hold-same bs, λ ds more us. none ds us)
    where
      none : (ds : List (ℕ × Term)) (us : List Term) → match_all [] us ds ≡ (if same_terms [] us then Some ds else None)
      none ds [] = refl
      none ds (u ∷ us) = refl
  none-settle (t ∷ ts) bs cs e = absurd cc

  -- one pattern more
  module _ (p t : Term) (ps ts : List Term) (mid cs ds : List (ℕ × Term)) where
    behind : (u : Term) (us : List Term) → match_all (map (matched sig ins) ps) us ds ≡ (if same_terms ts us then Some ds else None) → (b : Bool) → and_then (if b then Some ds else None) (match_all (map (matched sig ins) ps) us) ≡ (if b && same_terms ts us then Some ds else None)
    behind u us h true = h
    behind u us h false = refl

    all-settled : IsSettled sig ins mid p t → HoldAll mid cs → AllSettled cs ps ts → HoldAll cs ds → (us : List Term) → match_all (map (matched sig ins) (p ∷ ps)) us ds ≡ (if same_terms (t ∷ ts) us then Some ds else None)
    all-settled one grows all more [] = refl
    all-settled one grows all more (u ∷ us) =
        ap (λ (o : Option (List (ℕ × Term))). and_then o (match_all (map (matched sig ins) ps) us)) (one ds (hold-on mid cs ds grows more) u)
        ∙ behind u us (all ds more us) (same_term t u)

  more-settle : (p : Term) (ps : List Term) → Settles p → SettleAll ps → SettleAll (p ∷ ps)
  more-settle p ps h k [] bs cs e = absurd cc
  more-settle p ps h k (t ∷ ts) bs cs e = by_first (matched sig ins p t bs) refl e
    where
      by_first : (o : Option (List (ℕ × Term))) → matched sig ins p t bs ≡ o → and_then o (match_all (map (matched sig ins) ps) ts) ≡ Some cs → HoldAll bs cs × AllSettled cs (p ∷ ps) (t ∷ ts)
      by_first None is d = absurd cc
      by_first (Some mid) is d =
          let one = h t bs mid is in
          let all = k ts mid cs d in
          (hold-on bs mid cs one.0 all.0, λ ds more us. all-settled p t ps ts mid cs ds one.1 all.0 all.1 more us)

  -- what is matched is settled, and no binding is lost
  settles : (p : Term) → Settles p
  settles = term_induct Settles SettleAll variable-settles input-settles application-settles none-settle more-settle

module _ (sig : Signature) (ins : List SortId) (ns : List Shared) where
  abbrev Are : List (ℕ × Term) → (ℕ → Option TermId) → Type 0
  Are = AreSettled sig ins ns

  -- a new table holds nothing
  pub empty-settled : {S : Type 0} (bs : List (ℕ × Term)) (m : HashMap ℕ TermId S) → IsEmpty m → Are bs (get nat_eq m)
  empty-settled bs m e = record {
    inside = λ i j is. let h : get nat_eq m i ≡ None = ap (lookup (nat_eq i)) e in absurd cc;
    are = λ i j is. let h : get nat_eq m i ≡ None = ap (lookup (nat_eq i)) e in absurd cc;
  }

  hold-settled : (bs cs : List (ℕ × Term)) (f : ℕ → Option TermId) → HoldAll bs cs → Are bs f → Are cs f
  hold-settled bs cs f more h = record {
    inside = h.inside;
    are = λ i j is ds grows. h.are i j is ds (hold-on bs cs ds more grows);
  }

  module _ (p t : ℕ) (ps : List (ℕ × TermId)) (f : ℕ → Option TermId) (settled : Are (pairs_at ns ps) f) where
    -- what is settled stays so under what is bound more
    pub answer-kept : (o : Option (List (ℕ × TermId))) → answer_at ns o ≡ matched sig ins (term_at ns p) (term_at ns t) (pairs_at ns ps) → AnswerSettled sig ins ns o f
    answer-kept None is = tt
    answer-kept (Some qs) is = let h = settles sig ins (term_at ns p) (term_at ns t) (pairs_at ns ps) (pairs_at ns qs) (sym is) in hold-settled (pairs_at ns ps) (pairs_at ns qs) f h.0 settled

    -- what is held answers
    held-answer : (j : TermId) → f p ≡ Some j → matched sig ins (term_at ns p) (term_at ns t) (pairs_at ns ps) ≡ (if same_term (term_at ns j.0) (term_at ns t) then Some (pairs_at ns ps) else None)
    held-answer j is = settled.are p j is (pairs_at ns ps) (hold-same (pairs_at ns ps)) (term_at ns t)

    by_id : IsBank ns → t < length ns → (j : TermId) → f p ≡ Some j → (b : Bool) → (j.0 == t) ≡ b → matched sig ins (term_at ns p) (term_at ns t) (pairs_at ns ps) ≡ (if b then Some (pairs_at ns ps) else None)
    by_id bank within j is b same = held-answer j is ∙ ap (λ (c : Bool). if c then Some (pairs_at ns ps) else None) (sym (same-id ns bank j.0 t (settled.inside p j is) within) ∙ same)

    pub held-same : IsBank ns → t < length ns → (j : TermId) → f p ≡ Some j → (j.0 == t) ≡ true → matched sig ins (term_at ns p) (term_at ns t) (pairs_at ns ps) ≡ Some (pairs_at ns ps)
    held-same bank within j is same = by_id bank within j is true same

    pub held-unlike : IsBank ns → t < length ns → (j : TermId) → f p ≡ Some j → (j.0 == t) ≡ false → matched sig ins (term_at ns p) (term_at ns t) (pairs_at ns ps) ≡ None
    held-unlike bank within j is same = by_id bank within j is false same

  -- one more id is settled
  pub one-more : (p : ℕ) (t : TermId) (before ps : List (ℕ × TermId)) (f g : ℕ → Option TermId) → t.0 < length ns → Are (pairs_at ns ps) f → Some (pairs_at ns ps) ≡ matched sig ins (term_at ns p) (term_at ns t.0) (pairs_at ns before) → ((q : ℕ) → g q ≡ cond (nat_eq p q) (Some t) (f q)) → Are (pairs_at ns ps) g
  one-more p t before ps f g within settled e is = record {
    inside = by_place {P = λ (q : ℕ) (m : TermId). m.0 < length ns} within settled.inside;
    are = by_place {P = λ (q : ℕ) (m : TermId). IsSettled sig ins (pairs_at ns ps) (term_at ns q) (term_at ns m.0)} (let h = settles sig ins (term_at ns p) (term_at ns t.0) (pairs_at ns before) (pairs_at ns ps) (sym e) in h.1) settled.are;
  }
    where
      by_place : {P : ℕ → TermId → Type 0} → P p t → ((q : ℕ) (m : TermId) → f q ≡ Some m → P q m) → (q : ℕ) (m : TermId) → g q ≡ Some m → P q m
      by_place {P} here others q m h = by_test (nat_eq p q) refl (sym (is q) ∙ h)
        where
          by_test : (b : Bool) → nat_eq p q ≡ b → cond b (Some t) (f q) ≡ Some m → P q m
          by_test true d s =
              let id : p ≡ q = grind (arith, nat_tests) in
              let image : t ≡ m = cc in
              subst (λ (i : ℕ). P i m) id (subst (λ (i : TermId). P p i) image here)
          by_test false d s = others q m s
