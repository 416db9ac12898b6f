-- The reading with what was read so far in hand, as `clap` goes. It is the reading of the grammar.
use Rattle.std.proofs.Common.{◌≡◌, ◌∙◌, ◌++◌, ◌||◌, Bool, cond, true, false, refl, sym, ap, subst, List, [], ◌∷◌, length, Option, Some, None, true≢false, append-nil}
use Rattle.std.specs.Str.{bytes_eq}
use Rattle.std.specs.Prelude.{is_some, nat_eq}
use Rattle.std.proofs.lemmas.Slice.Eq.{bytes_eq-Decides}
use Rattle.am_words.specs.Grammar.{Text, Found, OptionWord, alone, with, unknown, Mode, plain, value, CommandShape, and_name, and_option, by_option, counted, is_dashes, is_option, said, loosely_by, option_word, value_given}

-- an option counts once
abbrev pub once : Text → List (Text × Text) → Option Found → Option Found
once k given next = cond (is_some (value_given k given)) None next

-- what is read of the words that follow these names and options, the newest option first
unfoldable pub read : List Text → Mode → List Text → List (Text × Text) → List Text → Option Found
read options plain names given [] = Some (record { names = names; given = given })
read options (value k) names given [] = None
read options (value k) names given (w ∷ ws) = cond (is_option w) None (read options plain names ((k, w) ∷ given) ws)
read options plain names given (w ∷ ws) =
    cond (is_dashes w) (Some (record { names = names ++ ws; given = given }))
    (cond (is_option w) (by_option (option_word options w) (λ k. once k given (read options (value k) names given ws)) (λ k v. once k given (read options plain names ((k, v) ∷ given) ws)))
    (read options plain (names ++ w ∷ []) given ws))

abbrev pub read_by : CommandShape → List Text → Option Found
read_by s words = counted s (read s.options plain [] [] words)

-- ---- what stands before, and what follows

-- the first of two values
abbrev pub either : Option Text → Option Text → Option Text
either None o = o
either (Some v) o = Some v

-- an option of the first list is in the second
abbrev clashes : List (Text × Text) → List (Text × Text) → Bool
clashes [] g = false
clashes (x ∷ xs) g = is_some (value_given x.0 g) || clashes xs g

-- f behind these names and options is h
pub record Whole (ns : List Text) (g : List (Text × Text)) (f h : Found) : Type 0 where
  pub names : h.names ≡ ns ++ f.names
  pub given : (k : Text) → value_given k h.given ≡ either (value_given k f.given) (value_given k g)

abbrev Follows : List Text → List (Text × Text) → Option Found → Found → Bool → Type 0
Follows ns g r f true = r ≡ None
Follows ns g r f false = (h : Found) × (r ≡ Some h) × Whole ns g f h

-- what was read, after these names and options, is what further words say
abbrev Joins : List Text → List (Text × Text) → Option Found → Option Found → Type 0
Joins ns g r None = r ≡ None
Joins ns g r (Some f) = Follows ns g r f (clashes f.given g)

joins_end : (ns ws : List Text) (g : List (Text × Text)) → Joins ns g (Some (record { names = ns ++ ws; given = g })) (Some (record { names = ws; given = [] }))
joins_end ns ws g = (record { names = ns ++ ws; given = g }, refl, record { names = refl; given = λ k. refl })

joins_nil : (ns : List Text) (g : List (Text × Text)) → Joins ns g (Some (record { names = ns; given = g })) (Some (record { names = []; given = [] }))
joins_nil ns g = (record { names = ns; given = g }, refl, record { names = sym (append-nil ns); given = λ k. refl })

one_by_one : (ns ws : List Text) (w : Text) → (ns ++ w ∷ []) ++ ws ≡ ns ++ w ∷ ws
one_by_one [] ws w = refl
one_by_one (n ∷ ns) ws w = ap (λ t. n ∷ t) (one_by_one ns ws w)

joins_name : (ns : List Text) (w : Text) (g : List (Text × Text)) (r o : Option Found) → Joins (ns ++ w ∷ []) g r o → Joins ns g r (and_name w o)
joins_name ns w g r None j = j
joins_name ns w g r (Some f) j = by_clash (clashes f.given g) j
  where
    by_clash : (b : Bool) → Follows (ns ++ w ∷ []) g r f b → Follows ns g r (record { names = w ∷ f.names; given = f.given }) b
    by_clash true e = e
    by_clash false e = (e.0, e.1, record { names = e.2.names ∙ one_by_one ns f.names w; given = e.2.given })

or_true : (b : Bool) → (b || true) ≡ true
or_true true = refl
or_true false = refl

differ : (i k : Text) → bytes_eq i k ≡ false → bytes_eq k i ≡ false
differ i k e = by_test (bytes_eq k i) refl
  where
    by_test : (b : Bool) → bytes_eq k i ≡ b → b ≡ false
    by_test true f = absurd (true≢false (sym ((bytes_eq-Decides i k).1 (sym ((bytes_eq-Decides k i).0 f))) ∙ e))
    by_test false f = refl

-- the option stands in the first list, and at the head of the second
clash_own : (k v x : Text) (fs g : List (Text × Text)) → value_given k fs ≡ Some x → clashes fs ((k, v) ∷ g) ≡ true
clash_own k v x [] g e = let bad : None ≡ Some x = e in absurd cc
clash_own k v x (y ∷ fs) g e = by_head (bytes_eq y.0 k) refl e (clash_own k v x fs g)
  where
    by_head : (b : Bool) → bytes_eq y.0 k ≡ b → cond b (Some y.1) (value_given k fs) ≡ Some x → (value_given k fs ≡ Some x → clashes fs ((k, v) ∷ g) ≡ true)
        → (is_some (value_given y.0 ((k, v) ∷ g)) || clashes fs ((k, v) ∷ g)) ≡ true
    by_head true i h later = let same : bytes_eq k y.0 ≡ true = (bytes_eq-Decides k y.0).1 (sym ((bytes_eq-Decides y.0 k).0 i)) in rw same refl
    by_head false i h later = rw (later h) (or_true (is_some (value_given y.0 ((k, v) ∷ g))))

-- it doesn't stand in the first list
clash_other : (k v : Text) (fs g : List (Text × Text)) → value_given k fs ≡ None → clashes fs ((k, v) ∷ g) ≡ clashes fs g
clash_other k v [] g e = refl
clash_other k v (y ∷ fs) g e = by_head (bytes_eq y.0 k) refl e (clash_other k v fs g)
  where
    by_head : (b : Bool) → bytes_eq y.0 k ≡ b → cond b (Some y.1) (value_given k fs) ≡ None → (value_given k fs ≡ None → clashes fs ((k, v) ∷ g) ≡ clashes fs g)
        → (is_some (value_given y.0 ((k, v) ∷ g)) || clashes fs ((k, v) ∷ g)) ≡ (is_some (value_given y.0 g) || clashes fs g)
    by_head true i h later = let bad : Some y.1 ≡ None = h in absurd cc
    by_head false i h later = rw (differ y.0 k i, later h) refl

none_once : (k : Text) (g : List (Text × Text)) (r : Option Found) → r ≡ None → once k g r ≡ None
none_once k g r e = by_given (value_given k g)
  where
    by_given : (o : Option Text) → cond (is_some o) None r ≡ None
    by_given None = e
    by_given (Some v) = refl

-- the option once more
whole_option : (ns : List Text) (k v : Text) (g : List (Text × Text)) (f h : Found) → value_given k f.given ≡ None → Whole ns ((k, v) ∷ g) f h → Whole ns g (record { names = f.names; given = (k, v) ∷ f.given }) h
whole_option ns k v g f h e w = record { names = w.names; given = λ j. w.given j ∙ by_key j (bytes_eq k j) refl }
  where
    by_key : (j : Text) (b : Bool) → bytes_eq k j ≡ b → either (value_given j f.given) (cond b (Some v) (value_given j g)) ≡ either (cond b (Some v) (value_given j f.given)) (value_given j g)
    by_key j true i = let same : k ≡ j = (bytes_eq-Decides k j).0 i in let none : value_given j f.given ≡ None = rw (← same) e in rw none refl
    by_key j false i = refl

joins_option : (ns : List Text) (k v : Text) (g : List (Text × Text)) (r o : Option Found) → Joins ns ((k, v) ∷ g) r o → Joins ns g (once k g r) (and_option k v o)
joins_option ns k v g r None j = none_once k g r j
joins_option ns k v g r (Some f) j = by_later (value_given k f.given) refl j
  where
    by_clash : (b : Bool) → value_given k f.given ≡ None → Follows ns ((k, v) ∷ g) r f b → Follows ns g r (record { names = f.names; given = (k, v) ∷ f.given }) b
    by_clash true e h = h
    by_clash false e h = (h.0, h.1, whole_option ns k v g f h.0 e h.2)

    by_before : (p : Option Text) → value_given k f.given ≡ None → Follows ns ((k, v) ∷ g) r f (clashes f.given ((k, v) ∷ g))
        → Follows ns g (cond (is_some p) None r) (record { names = f.names; given = (k, v) ∷ f.given }) (is_some p || clashes f.given g)
    by_before None e h = by_clash (clashes f.given g) e (subst (λ b. Follows ns ((k, v) ∷ g) r f b) (clash_other k v f.given g e) h)
    by_before (Some x) e h = refl

    by_later : (p : Option Text) → value_given k f.given ≡ p → Follows ns ((k, v) ∷ g) r f (clashes f.given ((k, v) ∷ g))
        → Joins ns g (once k g r) (cond (is_some p) None (Some (record { names = f.names; given = (k, v) ∷ f.given })))
    by_later None e h = by_before (value_given k g) e h
    by_later (Some x) e h = let bad : Follows ns ((k, v) ∷ g) r f true = subst (λ b. Follows ns ((k, v) ∷ g) r f b) (clash_own k v x f.given g e) h in none_once k g r bad

-- ---- all words

-- the mode's option, once
abbrev moded : Mode → List (Text × Text) → Option Found → Option Found
moded plain g r = r
moded (value k) g r = once k g r

by_value : (b : Bool) (ns : List Text) (k : Text) (g : List (Text × Text)) (r o : Option Found) → Joins ns g (once k g r) o → Joins ns g (once k g (cond b None r)) (cond b None o)
by_value true ns k g r o j = none_once k g None refl
by_value false ns k g r o j = j

by_word : (d o : Bool) (ow : OptionWord) (ns : List Text) (g : List (Text × Text)) (t n t' n' : Option Found) (wait wait' : Text → Option Found) (next next' : Text → Text → Option Found)
    → Joins ns g t t' → Joins ns g n n' → ((k : Text) → Joins ns g (wait k) (wait' k)) → ((k v : Text) → Joins ns g (next k v) (next' k v))
    → Joins ns g (cond d t (cond o (by_option ow wait next) n)) (cond d t' (cond o (by_option ow wait' next') n'))
by_word true o ow ns g t n t' n' wait wait' next next' jt jn jw jx = jt
by_word false false ow ns g t n t' n' wait wait' next next' jt jn jw jx = jn
by_word false true (alone k) ns g t n t' n' wait wait' next next' jt jn jw jx = jw k
by_word false true (with k v) ns g t n t' n' wait wait' next next' jt jn jw jx = jx k v
by_word false true unknown ns g t n t' n' wait wait' next next' jt jn jw jx = refl

joins : (options : List Text) (m : Mode) (ns : List Text) (g : List (Text × Text)) (ws : List Text) → Joins ns g (moded m g (read options m ns g ws)) (said is_option options m ws)
unfolding read said
joins options plain ns g [] = joins_nil ns g
joins options (value k) ns g [] = none_once k g None refl
joins options (value k) ns g (w ∷ ws) = by_value (is_option w) ns k g _ _ (joins_option ns k w g _ _ (joins options plain ns ((k, w) ∷ g) ws))
joins options plain ns g (w ∷ ws) = by_word (is_dashes w) (is_option w) (option_word options w) ns g _ _ _ _ _ _ _ _
    (joins_end ns ws g)
    (joins_name ns w g _ _ (joins options plain (ns ++ w ∷ []) g ws))
    (λ k. joins options (value k) ns g ws)
    (λ k v. joins_option ns k v g _ _ (joins options plain ns ((k, v) ∷ g) ws))

-- the same names, and the same value for each option
pub record Alike (f h : Found) : Type 0 where
  pub names : h.names ≡ f.names
  pub given : (k : Text) → value_given k h.given ≡ value_given k f.given

abbrev pub Agree : Option Found → Option Found → Type 0
Agree r None = r ≡ None
Agree r (Some f) = (h : Found) × (r ≡ Some h) × Alike f h

no_clash : (xs : List (Text × Text)) → clashes xs [] ≡ false
no_clash [] = refl
no_clash (x ∷ xs) = no_clash xs

at_start : (r o : Option Found) → Joins [] [] r o → Agree r o
at_start r None j = j
at_start r (Some f) j = by_clash (clashes f.given []) (no_clash f.given) j
  where
    or_none : (o : Option Text) → either o None ≡ o
    or_none None = refl
    or_none (Some v) = refl

    by_clash : (b : Bool) → b ≡ false → Follows [] [] r f b → Agree r (Some f)
    by_clash true e h = absurd (true≢false e)
    by_clash false e h = (h.0, h.1, record { names = h.2.names; given = λ k. h.2.given k ∙ or_none (value_given k f.given) })

count_both : (s : CommandShape) (r o : Option Found) → Agree r o → Agree (counted s r) (counted s o)
count_both s r None j = rw j refl
count_both s r (Some f) (h, e, w) = rw e (by_count (nat_eq s.count (length h.names)) (nat_eq s.count (length f.names)) (ap (λ t. nat_eq s.count (length t)) w.names))
  where
    by_count : (b d : Bool) → b ≡ d → Agree (cond b (Some h) None) (cond d (Some f) None)
    by_count true true i = (h, refl, w)
    by_count false false i = refl
    by_count true false i = absurd (true≢false i)
    by_count false true i = absurd (true≢false (sym i))

-- word by word, the reading is that of the grammar
pub forwards : (s : CommandShape) (words : List Text) → Agree (read_by s words) (loosely_by s words)
forwards s words = count_both s _ _ (at_start _ _ (joins s.options plain [] [] words))
