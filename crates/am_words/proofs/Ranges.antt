-- The numbers of a command that was read are in their ranges.
use Rattle.std.proofs.Common.{◌≡◌, ◌≤◌, ◌<◌, ◌&&◌, ℕ, Bool, cond, true, false, refl, subst, arith, nat_le, List, [], ◌∷◌, Option, Some, None, codes}
use Rattle.std.specs.Prelude.{option_and_then}
use Rattle.std.specs.Str.{bytes_eq}
use Rattle.std.proofs.lemmas.Bool.Decides.{nat_tests}
use Rattle.am_words.specs.Grammar.{Found, Text, reading_by, value_given}
use Rattle.am_words.specs.Numbers.{choice, number_between, short_number, number_or, within}
use Rattle.am_words.specs.Commands.{by_first, check_shape, check_from, demo_shape, demo_from, demo_of, make_shape, make_from, make_of, one, read_as_check, read_as_demo, read_as_make, read_as_theory, theory_shape, theory_from, three, two}
use Rattle.am_words.specs.Laws.{InRange, RangesHold}
use Rattle.am_words.specs.declared.command.Command.{Command}
use Rattle.am_words.specs.declared.command.Command.TheVariants.{Make, Check, Theory, Demo}

absent : {X : Type 0} {A : Type 0} (x : X) → None ≡ Some x → A
absent x e = absurd cc

the_same : {X : Type 0} (x y : X) → Some x ≡ Some y → x ≡ y
the_same x y e = cc

-- ---- numbers

within_is : (least most : ℕ) (o : Option ℕ) (n : ℕ) → within least most o ≡ Some n → (least ≤ n) × (n ≤ most)
within_is least most None n e = absent n e
within_is least most (Some m) n e = by_tests (nat_le least m) (nat_le m most) refl refl e
  where
    by_tests : (a b : Bool) → nat_le least m ≡ a → nat_le m most ≡ b → cond (a && b) (Some m) None ≡ Some n → (least ≤ n) × (n ≤ most)
    by_tests true true ea eb h = subst (λ t. (least ≤ t) × (t ≤ most)) (the_same m n h) (grind (arith, nat_tests), grind (arith, nat_tests))
    by_tests true false ea eb h = absent n h
    by_tests false b ea eb h = absent n h

number_is : (least most default : ℕ) → least ≤ default → default ≤ most → (o : Option Text) (n : ℕ) → number_or least most default o ≡ Some n → (least ≤ n) × (n ≤ most)
number_is least most default low high None n e = subst (λ t. (least ≤ t) × (t ≤ most)) (the_same default n e) (low, high)
number_is least most default low high (Some text) n e = within_is least most (short_number text) n e

choice_is : (o : Option Text) (n : ℕ) → choice o ≡ Some n → n < 3
choice_is None n e = subst (λ t. t < 3) (the_same 0 n e) (omega arith)
choice_is (Some text) n e = by_tests (bytes_eq text (codes "weight")) (bytes_eq text (codes "age")) (bytes_eq text (codes "mixed")) e
  where
    by_tests : (a b c : Bool) → cond a (Some 0) (cond b (Some 1) (cond c (Some 2) None)) ≡ Some n → n < 3
    by_tests true b c h = subst (λ t. t < 3) (the_same 0 n h) (omega arith)
    by_tests false true c h = subst (λ t. t < 3) (the_same 1 n h) (omega arith)
    by_tests false false true h = subst (λ t. t < 3) (the_same 2 n h) (omega arith)
    by_tests false false false h = absent n h

-- ---- commands

module _ (x : Command) where
  make_is : (t d : Text) (b w c : Option ℕ) → ((n : ℕ) → b ≡ Some n → (1 ≤ n) × (n ≤ 100000)) → ((n : ℕ) → w ≡ Some n → (10 ≤ n) × (n ≤ 400)) → ((n : ℕ) → c ≡ Some n → n < 3)
      → make_of t d b w c ≡ Some x → InRange x
  make_is t d (Some b) (Some w) (Some c) hb hw hc e = subst InRange (the_same (Make t d b w c) x e) (hb b refl, hw w refl, hc c refl)
  make_is t d None w c hb hw hc e = absent x e
  make_is t d (Some b) None c hb hw hc e = absent x e
  make_is t d (Some b) (Some w) None hb hw hc e = absent x e

  make_in : (f : Found) → make_from f ≡ Some x → InRange x
  make_in f e = by_names f.names e
    where
      by_names : (ns : List Text)
          → two ns (λ t d. make_of t d (number_or 1 100000 5000 (value_given (codes "budget") f.given)) (number_or 10 400 200 (value_given (codes "weight") f.given)) (choice (value_given (codes "choose") f.given))) ≡ Some x
          → InRange x
      by_names [] h = absent x h
      by_names (t ∷ []) h = absent x h
      by_names (t ∷ d ∷ []) h = make_is t d _ _ _ (number_is 1 100000 5000 (omega arith) (omega arith) (value_given (codes "budget") f.given))
          (number_is 10 400 200 (omega arith) (omega arith) (value_given (codes "weight") f.given)) (choice_is (value_given (codes "choose") f.given)) h
      by_names (t ∷ d ∷ a ∷ ns) h = absent x h

  check_in : (f : Found) → check_from f ≡ Some x → InRange x
  check_in f e = by_names f.names e
    where
      by_names : (ns : List Text) → three ns (λ t d a. Some (Check t d a)) ≡ Some x → InRange x
      by_names [] h = absent x h
      by_names (t ∷ []) h = absent x h
      by_names (t ∷ d ∷ []) h = absent x h
      by_names (t ∷ d ∷ a ∷ []) h = subst InRange (the_same (Check t d a) x h) tt
      by_names (t ∷ d ∷ a ∷ b ∷ ns) h = absent x h

  theory_in : (f : Found) → theory_from f ≡ Some x → InRange x
  theory_in f e = by_names f.names e
    where
      by_names : (ns : List Text) → one ns (λ t. Some (Theory t)) ≡ Some x → InRange x
      by_names [] h = absent x h
      by_names (t ∷ []) h = subst InRange (the_same (Theory t) x h) tt
      by_names (t ∷ a ∷ ns) h = absent x h

  demo_is : (o : Option ℕ) → ((n : ℕ) → o ≡ Some n → (1 ≤ n) × (n ≤ 300)) → demo_of o ≡ Some x → InRange x
  demo_is None hk e = absent x e
  demo_is (Some k) hk e = subst InRange (the_same (Demo k) x e) (hk k refl)

  demo_in : (f : Found) → demo_from f ≡ Some x → InRange x
  demo_in f e = by_names f.names e
    where
      by_names : (ns : List Text) → one ns (λ k. demo_of (number_between 1 300 k)) ≡ Some x → InRange x
      by_names [] h = absent x h
      by_names (k ∷ []) h = demo_is (number_between 1 300 k) (within_is 1 300 (short_number k)) h
      by_names (k ∷ a ∷ ns) h = absent x h

  by_found : (go : Found → Option Command) → ((f : Found) → go f ≡ Some x → InRange x) → (o : Option Found) → option_and_then go o ≡ Some x → InRange x
  by_found go h None e = absent x e
  by_found go h (Some f) e = h f e

  first_in : (w : Text) (ws : List Text) → by_first w ws ≡ Some x → InRange x
  first_in w ws e = by_tests (bytes_eq w (codes "make")) (bytes_eq w (codes "check")) (bytes_eq w (codes "theory")) (bytes_eq w (codes "demo")) e
    where
      by_tests : (a b c d : Bool) → cond a (read_as_make ws) (cond b (read_as_check ws) (cond c (read_as_theory ws) (cond d (read_as_demo ws) None))) ≡ Some x → InRange x
      by_tests true b c d h = by_found make_from make_in (reading_by make_shape ws) h
      by_tests false true c d h = by_found check_from check_in (reading_by check_shape ws) h
      by_tests false false true d h = by_found theory_from theory_in (reading_by theory_shape ws) h
      by_tests false false false true h = by_found demo_from demo_in (reading_by demo_shape ws) h
      by_tests false false false false h = absent x h

pub ranges_hold : RangesHold
ranges_hold [] x e = absent x e
ranges_hold (w ∷ ws) x e = first_in x w ws e
