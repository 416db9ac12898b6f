use Rattle.am_diagram.proofs.scopes.requirement_bound.Goals as goal

pub returns : goal.returns
returns c = let h = rw (c.as_slice-2.ensures, c.as_slice-3.ensures, c.in_ok-bound.ensures, c.as_slice.ensures) at c.with_objects.ensures in h
