-- For the private contracts and the proofs of this crate alone: the atom with another term at a path, whose first number names an argument or a side, from 1.
use Rattle.std.specs.Prelude.{◌==◌, ◌-◌, ℕ, Bool, List, [], ◌∷◌, map, Option, Some, None, option_and_then, if◌then◌else◌}
use Rattle.am_term.specs.declared.term.Term.{Term}
use Rattle.am_term.specs.declared.term.Atom.{Atom}
use Rattle.am_term.specs.declared.term.Atom.TheVariants.{Rel, Eq}
use Rattle.am_term.specs.declared.term.Literal.{Literal}
use Rattle.am_term.specs.Place.{replaced, member, with_member}
use Rattle.am_clause.specs.declared.row.Side.{Side}
use Rattle.am_clause.specs.declared.row.Side.TheVariants.{Left, Right}
use Rattle.am_rules.specs.Parts.{literal_under}
use Rattle.am_term.specs.Parts.{parts_of}

abbrev pub other_of : Side → Atom → Option Term
other_of side (Rel r args) = None
other_of Left (Eq l r) = Some r
other_of Right (Eq l r) = Some l

-- the atom with its k-th term replaced
abbrev pub with_term : Atom → ℕ → Term → Atom
with_term (Rel r args) k t = Rel r (with_member args k t)
with_term (Eq l r) k t = if k == 1 then Eq t r else Eq l t

abbrev pub with_term_if : Atom → ℕ → Option Term → Atom
with_term_if a k None = a
with_term_if a k (Some t) = with_term a k t

-- as it is where there is no part
abbrev pub with_put : Term → List ℕ → Atom → Atom
with_put new [] a = a
with_put new (k ∷ path) a = with_term_if a k (option_and_then (replaced new path) (member (parts_of a) k))

abbrev pub put_part : Option Term → List ℕ → Literal → Literal
put_part None path l = l
put_part (Some new) path l = record { positive = l.positive; atom = with_put new path l.atom }

-- the list with its i-th member changed, from 1
abbrev pub changed : {A : Type 0} → ℕ → (A → A) → List A → List A
changed i f [] = []
changed i f (x ∷ xs) = if i == 1 then f x ∷ xs else x ∷ changed (i - 1) f xs

-- the literal's instance, with the part put if it is there
unfoldable pub put_instance : Bool → Option Term → List ℕ → List Term → Literal → Literal
put_instance there new path with l = if there then put_part new path (literal_under with l) else literal_under with l

-- the instances, the i-th with another part
unfoldable pub put_instances : ℕ → Option Term → List ℕ → List Term → List Literal → List Literal
put_instances i new path with ls = changed i (put_part new path) (map (literal_under with) ls)
