-- What was read and is written is read again.
use Rattle.std.proofs.Common.{◌≡◌, ℕ, zero, suc, ◌+◌, ◌<◌, ◌≤◌, Bool, true, false, List, [], ◌∷◌, length, map, get_or, Ok, refl, ap, subst, ◌∙◌, arith}
use Rattle.std.specs.Prelude.{nat_le}
use Rattle.std.specs.List.{list_all, All}
use Rattle.std.proofs.lemmas.List.{append-nil}
use Rattle.std.proofs.lemmas.Bool.Decides.{nat_tests}
use Rattle.am_text.specs.declared.form.Form.{Form}
use Rattle.am_text.specs.declared.form.FormNode.TheVariants as node
use Rattle.am_text.specs.Bytes.{is_text_byte}
use Rattle.am_text.specs.Grammar.{Reads, End, Blank, Nest, Atom, Quoted, form, height, highest}
use Rattle.am_text.specs.Grammar.{Comment as Remark}
use Rattle.am_text.specs.Scan.{read}
use Rattle.am_text.specs.Spelling.{written, is_writable, lines, ReadsAs}
use Rattle.am_text.proofs.Folds.{writable-Text, writable-List, writable-form}
use Rattle.am_text.proofs.AtomKinds.{atom_writable}
use Rattle.am_text.proofs.Found.{read_found}
use Rattle.am_text.proofs.Converse.{read_again}
use Rattle.am_text.proofs.Written.{form_law, lines_law}
use Rattle.am_text.proofs.Runs.{both}

mapped : (fs : List Form) → list_all (λ b. b) (map is_writable fs) ≡ list_all is_writable fs
mapped [] = refl
mapped (f ∷ fs) = rw (mapped fs) refl

text_writable : (p : ℕ) (t : List ℕ) → list_all is_text_byte t ≡ true → length t ≤ 255 → is_writable (form p (node.Text t)) ≡ true
text_writable p t e le =
    let short : nat_le (length t) 255 ≡ true = grind (arith, nat_tests) in
    writable-form p (node.Text t) ∙ writable-Text t ∙ rw (short, e) refl

list_writable : (p : ℕ) (fs : List Form) → list_all is_writable fs ≡ true → is_writable (form p (node.List fs)) ≡ true
list_writable p fs e = writable-form p (node.List fs) ∙ writable-List fs ∙ mapped fs ∙ e

each : (f : Form) (fs : List Form) → is_writable f ≡ true → list_all is_writable fs ≡ true → list_all is_writable (f ∷ fs) ≡ true
each f fs a b = rw (a, b) refl

-- what is in the grammar can be written
reads_writable : (last : Bool) (p : ℕ) (bs : List ℕ) (fs : List Form) → Reads last p bs fs → list_all is_writable fs ≡ true
reads_writable last p bs fs (End last' p') = refl
reads_writable last p bs fs (Blank last' p' b bs' fs' e r) = reads_writable last (p + 1) bs' fs r
reads_writable last p bs fs (Remark last' p' text bs' fs' e ends r) = reads_writable last (p + 1 + length text) bs' fs r
reads_writable last p bs fs (Nest last' p' bs' cs' fs' gs' r t) = each (form p (node.List fs')) gs' (list_writable p fs' (reads_writable false (p + 1) bs' fs' r)) (reads_writable last (p + 1 + length bs' + 1) cs' gs' t)
reads_writable last p bs fs (Atom last' p' b w bs' n fs' e es lt ends a r) = each (form p n) fs' (writable-form p n ∙ atom_writable b w n e es lt a) (reads_writable last (p + 1 + length w) bs' fs' r)
reads_writable last p bs fs (Quoted last' p' t bs' fs' e le r) = each (form p (node.Text t)) fs' (text_writable p t e le) (reads_writable last (p + 1 + length t + 1) bs' fs' r)

pub read_writable : (limit depth : ℕ) (bytes : List ℕ) (fs : List Form) → read limit depth bytes ≡ Ok fs → list_all is_writable fs ≡ true
read_writable limit depth bytes fs e = reads_writable true 0 bytes fs (read_found limit depth bytes fs e).0

-- ---- one form, and forms on lines
pub written_again : (limit depth : ℕ) (f : Form) → is_writable f ≡ true → height f ≤ depth → length (written f) ≤ limit → ReadsAs limit depth (written f) (f ∷ [])
written_again limit depth f ok low fits =
    let r = form_law f ok 0 in
    let reading : Reads true 0 (written f) (r.0 ∷ []) = subst (λ (x : List ℕ). Reads true 0 x (r.0 ∷ [])) (append-nil (written f)) (r.3 true [] [] tt (End true (0 + length (written f)))) in
    (r.0 ∷ [], read_again limit depth (written f) (r.0 ∷ []) (reading, omega (arith, r.2), fits), ap (λ (x : Form). x ∷ []) r.1)

pub lines_again : (limit depth : ℕ) (fs : List Form) → list_all is_writable fs ≡ true → highest fs ≤ depth → length (lines fs) ≤ limit → ReadsAs limit depth (lines fs) fs
lines_again limit depth fs ok low fits =
    let r = lines_law fs ok 0 in
    (r.0, read_again limit depth (lines fs) r.0 (r.3, omega (arith, r.2), fits), r.1)

-- ---- what was read
member_writable : (fs : List Form) (k : ℕ) (d : Form) → k < length fs → list_all is_writable fs ≡ true → is_writable (get_or fs k d) ≡ true
member_writable [] k d lt e = absurd (omega arith)
member_writable (f ∷ fs) zero d lt e = (both (is_writable f) (list_all is_writable fs) e).0
member_writable (f ∷ fs) (suc k) d lt e = member_writable fs k d (omega arith) (both (is_writable f) (list_all is_writable fs) e).1

member_low : (fs : List Form) (k : ℕ) (d : Form) → k < length fs → height (get_or fs k d) ≤ highest fs
member_low [] k d lt = absurd (omega arith)
member_low (f ∷ fs) zero d lt = omega arith
member_low (f ∷ fs) (suc k) d lt = let r = member_low fs k d (omega arith) in omega arith

pub round_trip : (limit depth : ℕ) (bytes : List ℕ) (fs : List Form) → read limit depth bytes ≡ Ok fs → All (λ f. (l d : ℕ) → length (written f) ≤ l → depth ≤ d → ReadsAs l d (written f) (f ∷ [])) fs
round_trip limit depth bytes fs e = λ k x lt l d fits deep.
    let low = member_low fs k x lt in
    written_again l d (get_or fs k x) (member_writable fs k x lt (read_writable limit depth bytes fs e)) (omega (arith, low, (read_found limit depth bytes fs e).1)) fits
