-- The reader, one declaration after the other, and faults of the text.
use Rattle.std.proofs.Common.{◌≡◌, ◌∙◌, ℕ, ◌+◌, ◌<◌, ◌≤◌, List, length, get_or, drop, add-one, drop-cons, Result, Ok, Err, refl, sym, ap, subst, inl, inr}
use Rattle.std.proofs.lemmas.Grind.{common_steps}
use Rattle.std.proofs.lemmas.List.{drop_all}
use Rattle.am_text.specs.declared.form.Form.{Form}
use Rattle.am_text.specs.declared.fault.TextFault.{TextFault}
use Rattle.am_text.specs.declared.fault.TextKind.{TextKind}
use Rattle.am_text.specs.declared.fault.TextKind.TheVariants as text
use Rattle.am_text.specs.Scan.{read}
use Rattle.am_text.specs.Answers.{IsAnswer}
use Rattle.am_theory.specs.declared.fault.TheoryFault.{TheoryFault}
use Rattle.am_theory.specs.declared.fault.ReadError.{ReadError}
use Rattle.am_theory.specs.declared.fault.ReadError.TheVariants as errors
use Rattle.am_theory.specs.Contents.{Contents}
use Rattle.am_theory.specs.Limits.{file_limit, depth_limit}
use Rattle.am_theory.specs.Reading.{◌>>=◌, Fails, Gives, declared, read_from, forms_theory, text_theory, theory}
use Rattle.am_theory.specs.TextErrors.{text_error}

pub read_at : (i : ℕ) (forms : List Form) (c : Contents) (d : Form) → i < length forms → read_from c (drop i forms) ≡ (declared c (get_or forms i d) >>= λ next. read_from next (drop (i + 1) forms))
unfolding read_from
read_at i forms c d h = rw (drop-cons forms i d, add-one) refl

pub read_fails : (e : ReadError) (i : ℕ) (forms : List Form) (c : Contents) (d : Form) → i < length forms → Fails e (declared c (get_or forms i d)) → Fails e (read_from c (drop i forms))
read_fails errors.Memory i forms c d h f = tt
read_fails (errors.Fault x) i forms c d h f = read_at i forms c d h ∙ rw f refl

pub read_goes_on : (i : ℕ) (forms : List Form) (c next : Contents) (d : Form) → i < length forms → declared c (get_or forms i d) ≡ Ok next → read_from c (drop i forms) ≡ read_from next (drop (i + 1) forms)
read_goes_on i forms c next d h e = read_at i forms c d h ∙ rw e refl

abbrev pub done : Contents → Result Contents TheoryFault
done c = Ok c

pub read_ends : (i : ℕ) (forms : List Form) (c : Contents) → length forms ≤ i → read_from c (drop i forms) ≡ done c
unfolding read_from
read_ends i forms c e = rw (drop_all i forms e) refl

pub ruleset read_steps = (common_steps, read_goes_on, read_ends)

-- ---- faults of the text
abbrev failed : ℕ → TextKind → Result (List Form) TextFault
failed p k = Err (record { place = p; kind = k })

text-fails : (size p : ℕ) (k : TextKind) (answer : Result (List Form) TextFault) → answer ≡ failed p k → Fails (text_error p k) (text_theory size answer)
text-fails size p text.BadByte answer e = ap (text_theory size) e
text-fails size p text.Unclosed answer e = ap (text_theory size) e
text-fails size p text.Unopened answer e = ap (text_theory size) e
text-fails size p text.TooDeep answer e = ap (text_theory size) e
text-fails size p text.BadAtom answer e = ap (text_theory size) e
text-fails size p text.TooLong answer e = ap (text_theory size) e
text-fails size p text.NoMemory answer e = tt

pub text-answer : (size : ℕ) (f : TextFault) (answer : Result (List Form) TextFault) → IsAnswer {X = List Form} (Err f) answer → Fails (text_error f.place f.kind) (text_theory size answer)
text-answer size f answer (inl e) = subst (λ (g : TextFault). Fails (text_error g.place g.kind) (text_theory size answer)) (sym e) tt
text-answer size f answer (inr e) = text-fails size f.place f.kind answer e

pub text-theory : (bytes : List ℕ) (f : TextFault) → IsAnswer {X = List Form} (Err f) (read file_limit depth_limit bytes) → Fails (text_error f.place f.kind) (theory bytes)
unfolding theory
text-theory bytes f h = text-answer (length bytes) f (read file_limit depth_limit bytes) h

abbrev read_as : List Form → Result (List Form) TextFault
read_as fs = Ok fs

pub formed-theory : (c : Contents) (bytes : List ℕ) (fs : List Form) (r : Result (Unit {0}) ReadError) → read file_limit depth_limit bytes ≡ read_as fs → Gives (λ _. c) r (forms_theory (length bytes) fs) → Gives (λ _. c) r (theory bytes)
unfolding theory
formed-theory c bytes fs r e h = subst (λ (x : Result (List Form) TextFault). Gives (λ (_ : Unit {0}). c) r (text_theory (length bytes) x)) (sym e) h
