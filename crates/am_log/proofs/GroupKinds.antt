-- Of a group that is to be a row: the kinds that hold, and the first of them.
use Rattle.std.proofs.Common.{◌≡◌, ◌≢◌, ◌≤◌, ℕ, Bool, true, false, Option, Some, None, List, length, Result, Ok, Err, refl, sym, ap, ◌∙◌, arith, subst}
use Rattle.std.specs.Prelude.{◌==◌, if◌then◌else◌}
use Rattle.std.proofs.lemmas.Bool.{eqb-true, eqb-false}
use Rattle.am_term.specs.declared.id.SortId.{SortId}
use Rattle.am_term.specs.declared.signature.Signature.{Signature}
use Rattle.am_clause.specs.declared.row.Row.{Row}
use Rattle.am_log.specs.declared.fault.LogKind.{LogKind}
use Rattle.am_log.specs.declared.fault.LogKind.TheVariants.{NotProof, BadWrap, BadRow, BadNumber, UnknownName, BadSort, NoMemory}
use Rattle.am_log.specs.declared.named.NamedRow.{NamedRow}
use Rattle.am_log.specs.Groups.{Wraps, WrapsNothing}
use Rattle.am_log.specs.Unwrapped.{unwrapped_text}
use Rattle.am_log.specs.Spelled.{Spells, SpellsNothing}
use Rattle.am_log.specs.Text.{byte_limit, is_sorted_row}
use Rattle.am_log.specs.Naming.{Names, has_unknown_row, resolved_row}
use Rattle.am_log.specs.Answers.{row_named, row_or_bad, row_in_text, group_row}
use Rattle.am_log.specs.Faults.{ReadsRow, HoldsOfRow, rank}
use Rattle.am_log.proofs.Lines.{text_found, text_again, unwrapped_short}
use Rattle.am_log.proofs.Whole.{named_found, named_again, one_text}

-- the kind holds of the group, and whatever else holds of it is a later kind
pub record IsFirstKind (n : Names) (sig : Signature) (ins : List SortId) (k : ℕ) (g : List ℕ) (kind : LogKind) : Type 0 where
  pub holds : HoldsOfRow n sig ins k g kind
  pub first : (other : LogKind) → HoldsOfRow n sig ins k g other → rank kind ≤ rank other

-- a group that is a row has no kind of fault; of one that isn't the first is answered
abbrev pub IsKindOf : Names → Signature → List SortId → ℕ → List ℕ → Result Row LogKind → Type 0
IsKindOf n sig ins k g (Ok row) = (kind : LogKind) → HoldsOfRow n sig ins k g kind → ⊥
IsKindOf n sig ins k g (Err kind) = IsFirstKind n sig ins k g kind

abbrev a_text : List ℕ → Option (List ℕ)
a_text t = Some t

abbrev a_row : NamedRow → Option NamedRow
a_row r = Some r

pub no_text : (g : List ℕ) → unwrapped_text g ≡ None → WrapsNothing g
no_text g e = λ t w. let k : unwrapped_text g ≡ a_text t = text_again g t w in absurd cc

no_row : (t : List ℕ) → length t ≤ byte_limit → row_named t ≡ None → SpellsNothing t
no_row t l e = λ r s. let k : row_named t ≡ a_row r = named_again t r l s in absurd cc

pub one_wrap : (g t u : List ℕ) → Wraps g t → Wraps g u → t ≡ u
one_wrap g t u v w = let a : unwrapped_text g ≡ a_text t = text_again g t v in let b : unwrapped_text g ≡ a_text u = text_again g u w in cc

one_spelling : (t : List ℕ) (r q : NamedRow) → Spells t r → Spells t q → r ≡ q
one_spelling t r q v w = one_text r q v.named w.named (sym v.text_is ∙ w.text_is)

one_read : (g : List ℕ) (r q : NamedRow) → ReadsRow g r → ReadsRow g q → r ≡ q
one_read g r q v w = one_spelling w.text r q (subst (λ (t : List ℕ). Spells t r) (one_wrap g v.text w.text v.wraps w.wraps) v.spells) w.spells

read_row : (g t : List ℕ) (r : NamedRow) → ReadsRow g r → Wraps g t → SpellsNothing t → ⊥
read_row g t r v w h = h r (subst (λ (u : List ℕ). Spells u r) (one_wrap g v.text t v.wraps w) v.spells)

module _ (n : Names) (sig : Signature) (ins : List SortId) (k : ℕ) (g : List ℕ) where
  wrap_first : WrapsNothing g → IsFirstKind n sig ins k g BadWrap
  wrap_first h = record { holds = h; first = first }
    where
      first : (other : LogKind) → HoldsOfRow n sig ins k g other → 2 ≤ rank other
      first NotProof i = absurd i
      first BadWrap i = omega arith
      first BadRow i = omega arith
      first BadNumber i = omega arith
      first UnknownName i = omega arith
      first BadSort i = omega arith
      first NoMemory i = omega arith

  row_first : (t : List ℕ) → Wraps g t → SpellsNothing t → IsFirstKind n sig ins k g BadRow
  row_first t w h = record { holds = (t, w, h); first = first }
    where
      first : (other : LogKind) → HoldsOfRow n sig ins k g other → 3 ≤ rank other
      first NotProof i = absurd i
      first BadWrap i = absurd (i t w)
      first BadRow i = omega arith
      first BadNumber i = omega arith
      first UnknownName i = omega arith
      first BadSort i = omega arith
      first NoMemory i = omega arith

  number_first : (r : NamedRow) → ReadsRow g r → r.number ≢ k → IsFirstKind n sig ins k g BadNumber
  number_first r w h = record { holds = (r, w, h); first = first }
    where
      first : (other : LogKind) → HoldsOfRow n sig ins k g other → 4 ≤ rank other
      first NotProof i = absurd i
      first BadWrap i = absurd (i w.text w.wraps)
      first BadRow i = absurd (read_row g i.0 r w i.1 i.2)
      first BadNumber i = omega arith
      first UnknownName i = omega arith
      first BadSort i = omega arith
      first NoMemory i = omega arith

  name_first : (r : NamedRow) → ReadsRow g r → r.number ≡ k → has_unknown_row n r ≡ true → IsFirstKind n sig ins k g UnknownName
  name_first r w e h = record { holds = (r, w, h); first = first }
    where
      first : (other : LogKind) → HoldsOfRow n sig ins k g other → 5 ≤ rank other
      first NotProof i = absurd i
      first BadWrap i = absurd (i w.text w.wraps)
      first BadRow i = absurd (read_row g i.0 r w i.1 i.2)
      first BadNumber i = absurd (i.2 (ap (λ (q : NamedRow). q.number) (one_read g i.0 r i.1 w) ∙ e))
      first UnknownName i = omega arith
      first BadSort i = omega arith
      first NoMemory i = omega arith

  unknown_not : (r q : NamedRow) → ReadsRow g r → ReadsRow g q → has_unknown_row n r ≡ false → has_unknown_row n q ≡ true → ⊥
  unknown_not r q v w e h = let z : has_unknown_row n q ≡ false = ap (has_unknown_row n) (one_read g q r w v) ∙ e in absurd cc

  sort_first : (r : NamedRow) → ReadsRow g r → r.number ≡ k → has_unknown_row n r ≡ false → is_sorted_row sig ins (resolved_row n r) ≡ false → IsFirstKind n sig ins k g BadSort
  sort_first r w e u h = record { holds = (r, w, h); first = first }
    where
      first : (other : LogKind) → HoldsOfRow n sig ins k g other → 6 ≤ rank other
      first NotProof i = absurd i
      first BadWrap i = absurd (i w.text w.wraps)
      first BadRow i = absurd (read_row g i.0 r w i.1 i.2)
      first BadNumber i = absurd (i.2 (ap (λ (q : NamedRow). q.number) (one_read g i.0 r i.1 w) ∙ e))
      first UnknownName i = absurd (unknown_not r i.0 w i.1 u i.2)
      first BadSort i = omega arith
      first NoMemory i = omega arith

  none_holds : (r : NamedRow) → ReadsRow g r → r.number ≡ k → has_unknown_row n r ≡ false → is_sorted_row sig ins (resolved_row n r) ≡ true → (other : LogKind) → HoldsOfRow n sig ins k g other → ⊥
  none_holds r w e u h NotProof i = i
  none_holds r w e u h BadWrap i = i w.text w.wraps
  none_holds r w e u h BadRow i = read_row g i.0 r w i.1 i.2
  none_holds r w e u h BadNumber i = i.2 (ap (λ (q : NamedRow). q.number) (one_read g i.0 r i.1 w) ∙ e)
  none_holds r w e u h UnknownName i = unknown_not r i.0 w i.1 u i.2
  none_holds r w e u h BadSort i = absurd (let z : is_sorted_row sig ins (resolved_row n i.0) ≡ true = ap (λ (q : NamedRow). is_sorted_row sig ins (resolved_row n q)) (one_read g i.0 r i.1 w) ∙ h in let y = i.2 in cc)
  none_holds r w e u h NoMemory i = i

  sorted_by : (r : NamedRow) (b : Bool) → ReadsRow g r → r.number ≡ k → has_unknown_row n r ≡ false → is_sorted_row sig ins (resolved_row n r) ≡ b → IsKindOf n sig ins k g (if b then Ok (resolved_row n r) else Err BadSort)
  sorted_by r true w e u h = none_holds r w e u h
  sorted_by r false w e u h = sort_first r w e u h

  known_by : (r : NamedRow) (b : Bool) → ReadsRow g r → r.number ≡ k → has_unknown_row n r ≡ b → IsKindOf n sig ins k g (if b then Err UnknownName else (if is_sorted_row sig ins (resolved_row n r) then Ok (resolved_row n r) else Err BadSort))
  known_by r true w e u = name_first r w e u
  known_by r false w e u = sorted_by r (is_sorted_row sig ins (resolved_row n r)) w e u refl

  numbered_by : (r : NamedRow) (b : Bool) → ReadsRow g r → (r.number == k) ≡ b → IsKindOf n sig ins k g (if b then (if has_unknown_row n r then Err UnknownName else (if is_sorted_row sig ins (resolved_row n r) then Ok (resolved_row n r) else Err BadSort)) else Err BadNumber)
  numbered_by r true w e = known_by r (has_unknown_row n r) w (eqb-true r.number k e) refl
  numbered_by r false w e = number_first r w (eqb-false r.number k e)

  row_by : (t : List ℕ) (o : Option NamedRow) → length t ≤ byte_limit → Wraps g t → row_named t ≡ o → IsKindOf n sig ins k g (row_or_bad n sig ins k o)
  row_by t None l w e = row_first t w (no_row t l e)
  row_by t (Some r) l w e = numbered_by r (r.number == k) (record { text = t; wraps = w; spells = named_found t r e }) refl

  text_by : (o : Option (List ℕ)) → length g ≤ byte_limit → unwrapped_text g ≡ o → IsKindOf n sig ins k g (row_in_text n sig ins k o)
  text_by None l e = wrap_first (no_text g e)
  text_by (Some t) l e = row_by t (row_named t) (let z = unwrapped_short g t e in omega (arith, z, l)) (text_found g t e) refl

  pub first_kind : length g ≤ byte_limit → IsKindOf n sig ins k g (group_row n sig ins k g)
  unfolding group_row
  first_kind l = text_by (unwrapped_text g) l refl
