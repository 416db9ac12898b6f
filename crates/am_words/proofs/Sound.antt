-- A command whose look-ups were tested fits.
use Rattle.std.proofs.Common.{◌≡◌, ◌∙◌, ◌&&◌, ◌==◌, ◌+◌, ℕ, Bool, cond, true, false, not, refl, sym, ap, ap₂, arith, List, [], ◌∷◌, min, Option, Some, None, true≢false}
use Rattle.std.specs.Str.{bytes_eq}
use Rattle.std.specs.Prelude.{nat_eq, is_some, find, option_map}
use Rattle.std.specs.Option.{option_map_or}
use Rattle.std.specs.List.{list_all}
use Rattle.std.proofs.lemmas.Bool.Decides.{nat_tests}
use Rattle.std.proofs.lemmas.Slice.Eq.{bytes_eq-Decides}
use Rattle.clap.specs.Lexer.{usize_max}
use Rattle.clap.specs.Words.{Rule}
use Rattle.clap.specs.Walk.{arg_by_id, arg_by_index}
use Rattle.am_words.specs.Grammar.{Text}
use Rattle.am_words.specs.Slots.{Arguments, Slot, Slots, name, flag, id, differs, all_differ, slots, same_slot, is_slot, number, has_id, at_number, are_placed, is_sound}
use Rattle.am_words.proofs.Walks.{rule, rules}
use Rattle.am_words.proofs.Fills.{and_left, and_right}
use Rattle.am_words.proofs.Agrees.{At, Fits, KnownOptions}

nat_is : (i j : ℕ) → nat_eq i j ≡ true → i ≡ j
nat_is i j e = grind (arith, nat_tests)

same_is : (s t : Slot) → same_slot s t ≡ true → s ≡ t
same_is (name i k) (name j l) e = ap₂ name (nat_is i j (and_left (nat_eq i j) (bytes_eq k l) e)) ((bytes_eq-Decides k l).0 (and_right (nat_eq i j) (bytes_eq k l) e))
same_is (flag k) (flag l) e = ap flag ((bytes_eq-Decides k l).0 e)
same_is (name i k) (flag l) e = absurd (true≢false (sym e))
same_is (flag k) (name j l) e = absurd (true≢false (sym e))

slot_is : (o : Option Slot) (s : Slot) → is_slot o s ≡ true → o ≡ Some s
slot_is None s e = absurd (true≢false (sym e))
slot_is (Some t) s e = ap Some (same_is t s e)

-- a look-up of rules is one of slots
by_head : (b d : Bool) (s : Slot) (o : Option Rule) (p : Option Slot) → b ≡ d → o ≡ option_map rule p → cond b (Some (rule s)) o ≡ option_map rule (cond d (Some s) p)
by_head true d s o p e f = rw (← e) refl
by_head false d s o p e f = rw (← e) f

rule_id : (s : Slot) → (rule s).id ≡ id s
rule_id (name i k) = refl
rule_id (flag k) = refl

rule_number : (s : Slot) → (rule s).index ≡ number s
rule_number (name i k) = refl
rule_number (flag k) = refl

by_id : (ss : Slots) (k : Text) → arg_by_id (rules ss) k ≡ option_map rule (find (λ t. bytes_eq (id t) k) ss)
by_id [] k = refl
by_id (s ∷ ss) k = by_head (bytes_eq (rule s).id k) (bytes_eq (id s) k) s _ _ (ap (λ t. bytes_eq t k) (rule_id s)) (by_id ss k)

by_number : (ss : Slots) (i : ℕ) → arg_by_index (rules ss) i ≡ option_map rule (at_number ss i)
by_number [] i = refl
by_number (s ∷ ss) i = by_head (option_map_or (λ j. j == i) (rule s).index false) (option_map_or (λ j. j == i) (number s) false) s _ _ (ap (λ t. option_map_or (λ j. j == i) t false) (rule_number s)) (by_number ss i)

known : (ss : Slots) (s : Slot) → has_id ss s ≡ true → arg_by_id (rules ss) (id s) ≡ Some (rule s)
known ss s e = by_id ss (id s) ∙ ap (option_map rule) (slot_is (find (λ t. bytes_eq (id t) (id s)) ss) s e)

placed : (ss : Slots) (i : ℕ) (s : Slot) → is_slot (at_number ss i) s ≡ true → arg_by_index (rules ss) i ≡ Some (rule s)
placed ss i s e = by_number ss i ∙ ap (option_map rule) (slot_is (at_number ss i) s e)

none_is : (o : Option Slot) → not (is_some o) ≡ true → o ≡ None
none_is None e = refl
none_is (Some s) e = absurd (true≢false (sym e))

module _ (c : Arguments) (program : Text) where
  all_placed : (i : ℕ) (ps : List Text) → are_placed (slots c) i ps ≡ true → At c program i ps
  all_placed i [] e = by_number (slots c) i ∙ ap (option_map rule) (none_is (at_number (slots c) i) e)
  all_placed i (k ∷ ps) e =
      let later = and_right (is_slot (at_number (slots c) i) (name i k)) (has_id (slots c) (name i k) && are_placed (slots c) (min (i + 1) usize_max) ps) e in (
        placed (slots c) i (name i k) (and_left (is_slot (at_number (slots c) i) (name i k)) (has_id (slots c) (name i k) && are_placed (slots c) (min (i + 1) usize_max) ps) e),
        known (slots c) (name i k) (and_left (has_id (slots c) (name i k)) (are_placed (slots c) (min (i + 1) usize_max) ps) later),
        all_placed (min (i + 1) usize_max) ps (and_right (has_id (slots c) (name i k)) (are_placed (slots c) (min (i + 1) usize_max) ps) later),
      )

  all_known : (options : List Text) → list_all (λ k. has_id (slots c) (flag k)) options ≡ true → KnownOptions c program options
  all_known [] e = tt
  all_known (k ∷ options) e = (
    known (slots c) (flag k) (and_left (has_id (slots c) (flag k)) (list_all (λ j. has_id (slots c) (flag j)) options) e),
    all_known options (and_right (has_id (slots c) (flag k)) (list_all (λ j. has_id (slots c) (flag j)) options) e),
  )

  pub fits : is_sound c ≡ true → Fits c program
  fits e =
      let p = are_placed (slots c) 1 c.names in
      let k = list_all (λ j. has_id (slots c) (flag j)) c.options in
      let d = all_differ c.names in
      let a = list_all (λ j. differs j c.names) c.options in
      record {
        places = all_placed 1 c.names (and_left p (k && (d && a)) e);
        options = all_known c.options (and_left k (d && a) (and_right p (k && (d && a)) e));
        distinct = and_left d a (and_right k (d && a) (and_right p (k && (d && a)) e));
        apart = and_right d a (and_right k (d && a) (and_right p (k && (d && a)) e));
      }
