-- What is held grows by one part of a text after another.
use Rattle.std.proofs.Common.{◌≡◌, ◌∙◌, ◌+◌, ℕ, List, [], ◌∷◌, ◌++◌, min, take, drop, refl, ap, sym, subst, append_assoc, arith, None, Some, Option, length, true≢false, Bool, true, false, inl, inr, ◌⊎◌}
use Rattle.std.specs.Io.KnownBytes.{append_known}
use Rattle.std.proofs.Math.Seq.{take-add}
use Rattle.std.proofs.lemmas.Grind.{common_steps}
use Rattle.std.proofs.lemmas.Bool.Decides.{nat_tests}
use Rattle.std.proofs.lemmas.List.Folds.{list_all_more}
use Rattle.am_outside.specs.Causes.{Rose}
use Rattle.am_outside.specs.Growth.{Grows, GrowsByPart}
use Rattle.am_top.specs.declared.answer.Answer.{Answer}
use Rattle.am_top.specs.declared.answer.Answer.TheVariants.{Usage}
use Rattle.am_top.specs.Answers.{Page, Failed, is_text_answer, message_of}
use Rattle.am_top.specs.Messages.{usage}

-- two parts are one
pub append_known-append_known : (h : Option (List ℕ)) (a b : List ℕ) → append_known (append_known h a) b ≡ append_known h (a ++ b)
append_known-append_known None a b = refl
append_known-append_known (Some xs) a b = ap Some (append_assoc xs a b)

pub take-take : (m n : ℕ) (xs : List ℕ) → take m (take n xs) ≡ take (min m n) xs
take-take m n xs = grind (arith, common_steps)

-- after the first part, the next
pub grows_on : (h mid new : Option (List ℕ)) (text part : List ℕ) (at n : ℕ) → Grows h mid (take at text) → part ≡ take n (drop at text)
    → Grows mid new part → Grows h new (take (at + n) text)
grows_on h mid new text part at n first e next =
    next ∙ ap (λ m. append_known m part) first ∙ append_known-append_known h (take at text) part
    ∙ ap (λ b. append_known h (take at text ++ b)) e ∙ ap (append_known h) (sym (take-add at n text))

-- after the first part, a part of the next
pub grows_part_on : (h mid new : Option (List ℕ)) (text part : List ℕ) (at n : ℕ) → Grows h mid (take at text) → part ≡ take n (drop at text)
    → GrowsByPart mid new part → GrowsByPart h new text
grows_part_on h mid new text part at n first e next =
    (at + min next.0 n, grows_on h mid new text (take next.0 part) at (min next.0 n) first (ap (take next.0) e ∙ take-take next.0 n (drop at text)) next.1)

-- all of it is a part
pub grows_by_all : (old new : Option (List ℕ)) (bytes : List ℕ) → Grows old new bytes → GrowsByPart old new bytes
grows_by_all old new bytes grown = (length bytes, grown ∙ ap (append_known old) (grind (arith, common_steps)))

-- nothing is a part
pub grows_by_none : (old : Option (List ℕ)) (bytes : List ℕ) → GrowsByPart old old bytes
grows_by_none None bytes = (0, refl)
grows_by_none (Some held) bytes = (0, ap Some (sym (append_nil held)))
  where
    append_nil : (xs : List ℕ) → xs ++ [] ≡ xs
    append_nil [] = refl
    append_nil (x ∷ xs) = ap (λ r. x ∷ r) (append_nil xs)

-- what grows by nothing stays
pub grows_nothing : (old : Option (List ℕ)) → Grows old old []
grows_nothing None = refl
grows_nothing (Some held) = ap Some (sym (append_nil held))
  where
    append_nil : (xs : List ℕ) → xs ++ [] ≡ xs
    append_nil [] = refl
    append_nil (x ∷ xs) = ap (λ r. x ∷ r) (append_nil xs)

-- where the answer could not be put, one of the pages had a fault
pub rose_where_failed : (answer : Answer) (out out_new err err_new : Page) → Failed answer out out_new err err_new → Rose out.faults out_new.faults ⊎ Rose err.faults err_new.faults
rose_where_failed answer out out_new err err_new f = by_kind (is_text_answer answer) refl
  where
    by_kind : (b : Bool) → is_text_answer answer ≡ b → Rose out.faults out_new.faults ⊎ Rose err.faults err_new.faults
    by_kind true e = inl (f.2 e).0
    by_kind false e = inr (f.3 e).0

-- the message of an answer was put
pub message_put : (answer said : Answer) (old new : Option (List ℕ)) → answer ≡ said → Grows old new (message_of said) → Grows old new (message_of answer)
message_put answer said old new is grown = subst (λ (a : Answer). Grows old new (message_of a)) (sym is) grown

-- where the usage could not be put, nothing else was
pub usage_failed : (answer : Answer) (out err err_new : Page) → answer ≡ Usage → GrowsByPart err.held err_new.held usage → Rose err.faults err_new.faults → Failed answer out out err err_new
usage_failed answer out err err_new is part rose =
    subst (λ (a : Answer). Failed a out out err err_new) (sym is) (grows_by_none out.held [], part, (λ text. absurd (true≢false (sym text))), (λ none. (rose, refl, refl)))

pub ruleset line_laws = (common_steps, nat_tests, list_all_more)

pub ruleset print_laws = (common_steps, grows_nothing, grows_by_none)
