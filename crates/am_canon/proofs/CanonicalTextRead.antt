-- The canonical text of a theory that was read is read as this theory.
use Rattle.std.proofs.Common.{◌≡◌, ◌≤◌, inl, inr, ℕ, [], length, Ok}
use Rattle.am_theory.specs.Contents.{Contents, nothing}
use Rattle.am_canon.specs.CanonicalText.{declarations, canon}
use Rattle.am_theory.specs.Limits.{file_limit}
use Rattle.am_theory.specs.Reading.{theory}
use Rattle.am_canon.specs.RoundTrip.{CanonicalTextIsRead}
use Rattle.am_theory.specs.Traces.{Trace}
use Rattle.am_theory.proofs.RunOf.{Started, run_of}
use Rattle.am_theory.proofs.Sound.{HasVersionOf}
use Rattle.am_theory.proofs.SoundAxiom.{sound-nothing}
use Rattle.am_canon.proofs.LinesRead.{lines_theory}
use Rattle.am_canon.proofs.DeclaredAgain.{declared-again}
use Rattle.am_canon.proofs.VersionForm.{IsVersion}

canon_theory : (c : Contents) → IsVersion c.version → Trace (nothing c.version) (declarations c) c → length (canon c) ≤ file_limit → theory (canon c) ≡ Ok c
unfolding canon
canon_theory c h t short = lines_theory c.version h (declarations c) c t short

first-version : (v : ℕ) → IsVersion v → HasVersionOf v []
first-version v (inl e) = inl (e, tt)
first-version v (inr e) = inr e

pub canonical-text-read : CanonicalTextIsRead
canonical-text-read bytes c e short =
    let s : Started c = run_of bytes c e in
    canon_theory c s.versioned (declared-again c.version (sound-nothing c.version (first-version c.version s.versioned)) s.run.0 c s.run.1) short
