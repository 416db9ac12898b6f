-- Steps of the reading of declarations in order.
use Rattle.std.proofs.Common.{◌≡◌, ◌<◌, List, [], ◌∷◌, length, Ok, refl, arith}
use Rattle.std.proofs.lemmas.Grind.{common_steps}
use Rattle.am_text.specs.declared.form.Form.{Form}
use Rattle.am_theory.specs.declared.theory.Theory.{Theory}
use Rattle.am_diagram.specs.declared.draft.Draft.{Draft}
use Rattle.am_diagram.specs.declared.fault.ReadError.{ReadError}
use Rattle.am_diagram.specs.declared.fault.ReadError.TheVariants as errors
use Rattle.am_diagram.specs.Reading.{Fails, declared, read_from}

pub read_on : (t : Theory) (d next : Draft) (f : Form) (fs : List Form) → declared t d f ≡ Ok next → read_from t d (f ∷ fs) ≡ read_from t next fs
unfolding read_from
read_on t d next f fs e = rw e refl

pub read_end : (t : Theory) (d : Draft) (fs : List Form) → length fs < 1 → read_from t d fs ≡ Ok d
unfolding read_from
read_end t d [] h = refl
read_end t d (f ∷ fs) h = absurd (omega arith)

pub read_fails : (t : Theory) (d : Draft) (f : Form) (fs : List Form) (e : ReadError) → Fails e (declared t d f) → Fails e (read_from t d (f ∷ fs))
unfolding read_from
read_fails t d f fs errors.Memory h = tt
read_fails t d f fs (errors.Fault x) h = rw h refl

pub ruleset read_steps = (common_steps, read_on, read_end, read_fails)
