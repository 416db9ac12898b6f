use Rattle.am_rules.proofs.laws.law_of_inferences.Goals as goal

pub returns : goal.returns
returns c = record {
  factor = λ sig ins sources rows k i j p m there h sorted. record { follows = record { p = p; first = h.first; there = there; bound_by = h.bound_by; made = h.made }; sorted = sorted; numbered = h.numbered };
  reflex = λ sig ins sources rows k i p m there h sorted. record { follows = record { p = p; first = h.first; there = there; bound_by = h.bound_by; made = h.made }; sorted = sorted; numbered = h.numbered };
  resolve = λ sig ins sources rows k i n j p q m there too h sorted. record { follows = record { p = p; q = q; first = h.first; second = h.second; there = there; there_too = too; bound_by = h.bound_by; made = h.made }; sorted = sorted; numbered = h.numbered };
  para = λ sig ins sources rows k j side n i path p q m there too h sorted. record { follows = record { p = p; q = q; first = h.first; second = h.second; there = there; there_too = too; bound_by = h.bound_by; made = h.made }; sorted = sorted; numbered = h.numbered };
  close = λ sig ins sources rows k p m there h sorted. record { follows = record { p = p; first = h.first; there = there; bound_by = h.bound_by; made = h.made }; sorted = sorted; numbered = h.numbered };
}
