-- Going over terms and lists.
use Rattle.std.proofs.Common.{◌≡◌, ◌∙◌, ◌==◌, ◌+◌, ◌-◌, ◌<◌, ◌++◌, ℕ, Bool, true, false, refl, sym, ap, arith, List, [], ◌∷◌, map, Option, Some, None, option_map, get_or, take, length, if◌then◌else◌}
use Rattle.std.specs.List.{zip}
use Rattle.std.proofs.lemmas.Grind.{common_steps}
use Rattle.std.proofs.lemmas.Bool.Decides.{nat_tests}
use Rattle.am_term.specs.declared.term.Term.{Term}
use Rattle.am_term.specs.declared.term.Term.TheViews.{the_lemmas}
use Rattle.am_term.specs.declared.term.Literal.{Literal}
use Rattle.am_term.specs.Instance.{instance_laws}
use Rattle.am_term.specs.Span.{span_laws}
use Rattle.am_term.proofs.Spans.{span-le-spans}
use Rattle.am_term.proofs.Members.{member-zero, member-past, member-within, member-get, with_member-set}
use Rattle.am_rules.specs.Replacing.{changed, put_part, put_instance, put_instances}
use Rattle.am_unify.proofs.Walks.{bound_at, removed_first, zip-stopped}
use Rattle.am_rules.specs.Asked.{Pairs, both_pairs}
use Rattle.am_rules.specs.Parts.{all_but, added_unless, literal_under}
use Rattle.am_rules.specs.Solving.{apart, shifted, all_shifted, shifted_laws}
use Rattle.std.specs.List.{flat_map}
use Rattle.std.proofs.lemmas.List.{map-append, append_assoc, append-nil, take_more}
use Rattle.std.proofs.lemmas.List.Concat.{flat_map-append}
use Rattle.am_clause.specs.declared.row.Made.{Made}
use Rattle.am_clause.specs.Distinct.{with_new}
use Rattle.am_clause.specs.Variables.{Variable, same_variable, occurrences_all, in_clause, variables, occurrences_laws}
use Rattle.am_clause.specs.Renaming.{places_in, renamed_laws}
use Rattle.am_clause.proofs.Firsts.{with_new-distinct}
use Rattle.am_clause.proofs.Places.{same_variable-sound, same_variable-refl, place-found, place-passed, place-end, place-within, noted-old, noted-new, noted-none, noted-both, terms-noted}
use Rattle.am_term.proofs.Sorted.{sorting}
use Rattle.am_rules.specs.Row.{in_lists, variables_of_made}
use Rattle.am_clause.specs.NumberedMade.{made_occurrences, renamed_made, numbered_made}

pub ruleset instancing = (common_steps, nat_tests, the_lemmas, instance_laws)

pub ruleset shifting = (common_steps, nat_tests, the_lemmas, shifted_laws, span_laws, span-le-spans)

pub ruleset applying = (common_steps, nat_tests, the_lemmas, bound_at)

pub ruleset zipping = (common_steps, removed_first, zip-stopped)

pub zip-apart : (k : ℕ) (ts us : List Term) → apart k (zip ts us) ≡ zip ts (all_shifted k us)
zip-apart k [] us = refl
zip-apart k (t ∷ ts) [] = refl
zip-apart k (t ∷ ts) (u ∷ us) = ap (λ ps. (t, shifted k u) ∷ ps) (zip-apart k ts us)

pub ruleset pairing = (common_steps, nat_tests, the_lemmas, zip-apart, span_laws)

pub both-apart : (k : ℕ) (a b : Pairs) → option_map (apart k) (both_pairs a b) ≡ both_pairs (option_map (apart k) a) (option_map (apart k) b)
both-apart k None b = refl
both-apart k (Some ps) None = refl
both-apart k (Some ps) (Some qs) = ap Some (map-append (λ (e : Term × Term). (e.0, shifted k e.1)) ps qs)

pub ruleset asking = (common_steps, both-apart)

-- one literal further
pub without-step : {B : Type 0} (f : Literal → B) (made new : List B) (left next : ℕ) (l : Literal) (rest : List Literal) → new ≡ added_unless made (left == 1) (f l) → next ≡ left - 1 → made ++ map f (all_but left (l ∷ rest)) ≡ new ++ map f (all_but next rest)
without-step f made new left next l rest is e = by (left == 1) refl is
  where
    none : (ls : List Literal) (i : ℕ) → i ≡ 0 → all_but i ls ≡ ls
    none [] i z = refl
    none (x ∷ xs) i z = ap (λ (b : Bool). if b then xs else x ∷ all_but (i - 1) xs) (let o : (i == 1) ≡ false = grind (arith, nat_tests) in o) ∙ ap (λ ys. x ∷ ys) (none xs (i - 1) (omega arith))

    by : (b : Bool) → (left == 1) ≡ b → new ≡ added_unless made b (f l) → made ++ map f (if b then rest else l ∷ all_but (left - 1) rest) ≡ new ++ map f (all_but next rest)
    by true t n = let one : left ≡ 1 = grind (arith, nat_tests) in let z : next ≡ 0 = omega arith in ap (λ ls. made ++ map f ls) (sym (none rest next z)) ∙ ap (λ ls. ls ++ map f (all_but next rest)) (sym n)
    by false t n = sym (append_assoc made (f l ∷ []) (map f (all_but (left - 1) rest))) ∙ (ap (λ ls. ls ++ map f (all_but (left - 1) rest)) (sym n) ∙ ap (λ i. new ++ map f (all_but i rest)) (sym e))

pub ruleset skipping = (common_steps, nat_tests, without-step)

-- going over rows
pub ruleset renaming = (common_steps, the_lemmas, renamed_laws, place-within)

pub ruleset placing = (common_steps, nat_tests, place-found, place-passed, place-end)

pub lists-noted : (vs : List Variable) (ws : List (List Term)) (i : ℕ) (d : List Term) → i < length ws
    → with_new same_variable vs (in_lists (take (i + 1) ws)) ≡ with_new same_variable (with_new same_variable vs (in_lists (take i ws))) (occurrences_all (get_or ws i d))
lists-noted vs ws i d h =
    let e : in_lists (take (i + 1) ws) ≡ in_lists (take i ws) ++ occurrences_all (get_or ws i d) =
    ap (flat_map occurrences_all) (take_more ws i d h) ∙ (flat_map-append occurrences_all (take i ws) (get_or ws i d ∷ []) ∙ ap (λ ys. in_lists (take i ws) ++ ys) (append-nil (occurrences_all (get_or ws i d)))) in
    ap (with_new same_variable vs) e ∙ noted-both vs (in_lists (take i ws)) (occurrences_all (get_or ws i d))

pub ruleset collecting = (common_steps, the_lemmas, occurrences_laws, noted-old, noted-new, noted-none, noted-both, terms-noted, lists-noted)

-- all of a row
pub row-noted : (m : Made) → with_new same_variable (variables m.clause) (in_lists m.with) ≡ variables_of_made m
unfolding variables
row-noted m =
    ap (λ (vs : List Variable). with_new same_variable vs (in_lists m.with)) (sym (with_new-distinct same_variable same_variable-sound same_variable-refl (in_clause m.clause)))
    ∙ (sym (noted-both [] (in_clause m.clause) (in_lists m.with)) ∙ with_new-distinct same_variable same_variable-sound same_variable-refl (made_occurrences m))

pub ruleset row_collecting = (common_steps, row-noted)

pub renumbered_made-is : (m : Made) → numbered_made m ≡ renamed_made (places_in (variables_of_made m)) m
unfolding numbered_made
renumbered_made-is m = refl

pub ruleset renumbering = (common_steps, renumbered_made-is)

-- parts of atoms
pub ruleset replacing = (common_steps, nat_tests, the_lemmas, member-zero, member-past, member-within, member-get, with_member-set)

changed-none : (f : Literal → Literal) (i : ℕ) (ls : List Literal) → i ≡ 0 → changed i f ls ≡ ls
changed-none f i [] z = refl
changed-none f i (l ∷ ls) z = ap (λ (b : Bool). if b then f l ∷ ls else l ∷ changed (i - 1) f ls) (let o : (i == 1) ≡ false = grind (arith, nat_tests) in o) ∙ ap (λ ys. l ∷ ys) (changed-none f (i - 1) ls (omega arith))

-- one literal further
pub changed-step : (f g : Literal → Literal) (made new : List Literal) (left next : ℕ) (l : Literal) (rest : List Literal) → new ≡ made ++ (if left == 1 then f (g l) else g l) ∷ [] → next ≡ left - 1
    → made ++ changed left f (map g (l ∷ rest)) ≡ new ++ changed next f (map g rest)
changed-step f g made new left next l rest is e = by (left == 1) refl is
  where
    by : (b : Bool) → (left == 1) ≡ b → new ≡ made ++ (if b then f (g l) else g l) ∷ [] → made ++ (if b then f (g l) ∷ map g rest else g l ∷ changed (left - 1) f (map g rest)) ≡ new ++ changed next f (map g rest)
    by true t n = let one : left ≡ 1 = grind (arith, nat_tests) in let z : next ≡ 0 = omega arith in
        ap (λ ls. made ++ f (g l) ∷ ls) (sym (changed-none f next (map g rest) z)) ∙ (sym (append_assoc made (f (g l) ∷ []) (changed next f (map g rest))) ∙ ap (λ ls. ls ++ changed next f (map g rest)) (sym n))
    by false t n = ap (λ i. made ++ g l ∷ changed i f (map g rest)) (sym e) ∙ (sym (append_assoc made (g l ∷ []) (changed next f (map g rest))) ∙ ap (λ ls. ls ++ changed next f (map g rest)) (sym n))

pub put-none : (i : ℕ) (new : Option Term) (path : List ℕ) (with : List Term) → put_instances i new path with [] ≡ []
unfolding put_instances
put-none i new path with = refl

pub put-step : (made now : List Literal) (left next : ℕ) (new : Option Term) (path : List ℕ) (with : List Term) (l : Literal) (rest : List Literal)
    → now ≡ made ++ put_instance (left == 1) new path with l ∷ [] → next ≡ left - 1 → made ++ put_instances left new path with (l ∷ rest) ≡ now ++ put_instances next new path with rest
unfolding put_instances put_instance
put-step made now left next new path with l rest is e = changed-step (put_part new path) (literal_under with) made now left next l rest is e

pub ruleset changing = (common_steps, nat_tests, put-none, put-step)

pub ruleset fitting = (sorting)

-- kinds of literals
pub ruleset ruling = (common_steps, nat_tests)
