-- Going over the dummies and the declarations.
use Rattle.std.proofs.Common.{◌≡◌, ◌∙◌, ◌++◌, ◌&&◌, ◌<◌, ◌≤◌, ◌+◌, ◌-◌, ℕ, zero, suc, true, false, Bool, refl, sym, ap, arith, List, [], ◌∷◌, Option, Some, None, length, take, drop, slice_get, get_or, drop-cons, add-one, if◌then◌else◌}
use Rattle.std.proofs.Math.Seq.{take-suc}
use Rattle.std.proofs.lemmas.List.{drop_all, length-take-le, map_more}
use Rattle.std.proofs.lemmas.Grind.{common_steps}
use Rattle.std.proofs.lemmas.Bool.Decides.{nat_tests}
use Rattle.std.specs.Str.{bytes_eq}
use Rattle.am_term.specs.declared.id.SortId.{SortId}
use Rattle.am_theory.specs.declared.theory.Theory.{Theory}
use Rattle.am_diagram.specs.declared.diagram.Diagram.{Diagram}
use Rattle.am_diagram.specs.Listed.{entry_names}
use Rattle.am_fortran.specs.declared.statement.Decl.{Decl}
use Rattle.am_fortran.specs.declared.unit.Unit.{Unit as Subroutine}
use Rattle.am_exec.specs.ItemFaults.{same_names, is_bad_declaration}
use Rattle.am_exec.specs.Terms.{bad_declaration}

and_regroup : (a b c : Bool) → (a && (b && c)) ≡ ((a && b) && c)
and_regroup true b c = refl
and_regroup false b c = refl

-- names are those of two lists together where the front is the first and the rest the second
pub same_names-append : (ns : List (List ℕ)) (es fs : List (List ℕ × SortId)) → length es ≤ length ns → same_names ns (entry_names (es ++ fs)) ≡ (same_names (take (length es) ns) (entry_names es) && same_names (drop (length es) ns) (entry_names fs))
same_names-append [] [] fs h = refl
same_names-append [] (e ∷ es) fs h = absurd (omega arith)
same_names-append (n ∷ ns) [] fs h = refl
same_names-append (n ∷ ns) (e ∷ es) fs h = rw (same_names-append ns es fs (omega arith)) (and_regroup (bytes_eq n e.0) (same_names (take (length es) ns) (entry_names es)) (same_names (drop (length es) ns) (entry_names fs)))

pub same_names-short : (ns : List (List ℕ)) (es fs : List (List ℕ × SortId)) → length ns < length es → same_names ns (entry_names (es ++ fs)) ≡ false
same_names-short ns [] fs h = absurd (omega arith)
same_names-short [] (e ∷ es) fs h = refl
same_names-short (n ∷ ns) (e ∷ es) fs h = rw (same_names-short ns es fs (omega arith)) (and_false (bytes_eq n e.0))
  where
    and_false : (a : Bool) → (a && false) ≡ false
    and_false true = refl
    and_false false = refl

pub ruleset heads = (common_steps, nat_tests, same_names-append, same_names-short)

-- the member of two lists together
pub get-front : (es fs : List (List ℕ × SortId)) (k : ℕ) → k < length es → slice_get (es ++ fs) k ≡ slice_get es k
get-front [] fs k h = absurd (omega arith)
get-front (e ∷ es) fs zero h = refl
get-front (e ∷ es) fs (suc k) h = get-front es fs k (omega arith)

pub get-behind : (es fs : List (List ℕ × SortId)) (k : ℕ) → length es ≤ k → slice_get (es ++ fs) k ≡ slice_get fs (k - length es)
get-behind [] fs k h = ap (slice_get fs) (omega arith)
get-behind (e ∷ es) fs zero h = absurd (omega arith)
get-behind (e ∷ es) fs (suc k) h = get-behind es fs k (omega arith) ∙ ap (slice_get fs) (omega arith)

pub ruleset dummies = (common_steps, nat_tests, get-front, get-behind)

module _ (t : Theory) (d : Diagram) (u : Subroutine) where
  chosen : (b : Bool) (i j : ℕ) (x y : Option ℕ) → i ≡ j → x ≡ y → (if b then Some i else x) ≡ (if b then Some j else y)
  chosen true i j x y e f = ap Some e
  chosen false i j x y e f = f

  -- what is left decides
  pub bad-step : (ds : List Decl) (i : ℕ) (x : Decl) → i < length ds → bad_declaration t d u (take i ds) (drop i ds) ≡ (if is_bad_declaration t d u (take i ds) (get_or ds i x) then Some i else bad_declaration t d u (take (i + 1) ds) (drop (i + 1) ds))
  bad-step ds i x h =
      ap (bad_declaration t d u (take i ds)) (drop-cons ds i x h)
      ∙ chosen (is_bad_declaration t d u (take i ds) (get_or ds i x)) (length (take i ds)) i _ _ (length-take-le i ds (omega arith))
      (ap (λ (es : List Decl). bad_declaration t d u es (drop (suc i) ds)) (sym (take-suc ds i x h)) ∙ ap (λ (j : ℕ). bad_declaration t d u (take j ds) (drop j ds)) (sym (add-one i)))

pub bad-none : (t : Theory) (d : Diagram) (u : Subroutine) (ds : List Decl) → bad_declaration t d u (take (length ds) ds) (drop (length ds) ds) ≡ None
bad-none t d u ds = ap (bad_declaration t d u (take (length ds) ds)) (drop_all (length ds) ds (omega arith))

pub ruleset declaring = (common_steps, nat_tests, bad-step, bad-none, map_more)
