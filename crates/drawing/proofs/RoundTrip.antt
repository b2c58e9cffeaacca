-- A name that is written is read back.
use Rattle.std.proofs.Common.{◌≡◌, ℕ, suc, ◌+◌, ◌<◌, Bool, true, false, cond, not, ◌&&◌, ◌||◌, eqb, ltb, List, [], ◌∷◌, ◌++◌, length, take, drop, IfOk, Some, Ok, Err, Result, sym, refl, ap, ◌∙◌, ⊎_elim, append_assoc, append-nil, arith}
use Rattle.std.proofs.lemmas.List.{take_at, drop_at, length_push}
use Rattle.std.specs.List.{prefix_len, position_or_len}
use Rattle.std.proofs.lemmas.Bool.{cond-true, cond-false, or_left, or_cases, or_parts, or_from, eqb-true, ne_eqb, and_parts, not-true, le-ltb, lt-ltb, both_ways}
use Rattle.drawing.specs.Form.{blank, ends, stops, control, control_within, astray, also, closing, plain, apart, word, next, dash, bare_word, bare, sized, quoted_word, quoted_at, next_dark, next_piece}
use Rattle.drawing.specs.Spelling.{special, escaped, plainly, spelling, IsName, Means}
use Rattle.drawing.proofs.Pieces.{pieces_next, pieces_none}

-- in quotes
closing_escaped : (n rest : List ℕ) → closing false (escaped n ++ (34 ∷ rest)) ≡ Some (length (escaped n))
closing_escaped [] rest = refl
closing_escaped (b ∷ bs) rest = at (special b) refl (closing_escaped bs rest)
  where
    at : (t : Bool) → special b ≡ t → closing false (escaped bs ++ (34 ∷ rest)) ≡ Some (length (escaped bs)) → closing false (cond t (92 ∷ b ∷ escaped bs) (b ∷ escaped bs) ++ (34 ∷ rest)) ≡ Some (length (cond t (92 ∷ b ∷ escaped bs) (b ∷ escaped bs)))
    at true e h = ap also (cond-false _ _ _ (straight b e) ∙ ap also h)
      where
        straight : (b : ℕ) → special b ≡ true → astray true b ≡ false
        straight b e = ⊎_elim (λ q. ap (λ t. not t && not (eqb b 92)) q) (λ q. ways (eqb b 34) (eqb b 92) q) (or_cases (eqb b 34) (eqb b 92) e)
          where
            ways : (x y : Bool) → y ≡ true → (not x && not y) ≡ false
            ways true y q = refl
            ways false y q = ap not q
    at false e h =
        let p = or_parts (eqb b 34) (eqb b 92) e in
        cond-false _ _ _ p.0 ∙ ap (λ t. also (closing t (escaped bs ++ (34 ∷ rest)))) p.1 ∙ ap also h

plain_escaped : (n : List ℕ) → plain false (escaped n) ≡ n
plain_escaped [] = refl
plain_escaped (b ∷ bs) = at (special b) refl (plain_escaped bs)
  where
    at : (t : Bool) → special b ≡ t → plain false (escaped bs) ≡ bs → plain false (cond t (92 ∷ b ∷ escaped bs) (b ∷ escaped bs)) ≡ b ∷ bs
    at true e h = ap (λ l. b ∷ l) h
    at false e h = cond-false _ _ _ (or_parts (eqb b 34) (eqb b 92) e).1 ∙ ap (λ l. b ∷ l) h

low_special : (b : ℕ) → special b ≡ true → b < 160
low_special b e = ⊎_elim (λ q. omega (arith, eqb-true b 34 q)) (λ q. omega (arith, eqb-true b 92 q)) (or_cases (eqb b 34) (eqb b 92) e)

pub clear_escaped : (wide : Bool) (n : List ℕ) → control_within wide n ≡ false → control_within wide (escaped n) ≡ false
clear_escaped wide [] h = refl
clear_escaped wide (b ∷ bs) h = let p = or_parts (control wide b) (control_within (eqb b 194) bs) h in at (special b) refl p.0 (clear_escaped (eqb b 194) bs p.1)
  where
    marked : (w : Bool) → control w b ≡ false → b < 160 → control_within (eqb b 194) (escaped bs) ≡ false → control_within w (92 ∷ b ∷ escaped bs) ≡ false
    marked true k l q = absurd (both_ways _ (or_parts (ltb b 32 || eqb b 127) (ltb b 160) k).1 (lt-ltb b 160 l))
    marked false k l q = or_from _ _ k q

    at : (t : Bool) → special b ≡ t → control wide b ≡ false → control_within (eqb b 194) (escaped bs) ≡ false → control_within wide (cond t (92 ∷ b ∷ escaped bs) (b ∷ escaped bs)) ≡ false
    at true e k q = marked wide k (low_special b e) q
    at false e k q = or_from _ _ k q

drop_past : (xs rest : List ℕ) → drop (length xs + 1) (xs ++ (34 ∷ rest)) ≡ rest
drop_past xs rest = ap (drop (length xs + 1)) (sym (append_assoc xs (34 ∷ []) rest)) ∙ drop_at (xs ++ (34 ∷ [])) rest (length xs + 1) (omega (arith, length_push xs 34))

-- a name is read back where what follows it may follow a word
quoted_back : (n rest : List ℕ) → IsName n → apart rest ≡ true → next_piece (34 ∷ (escaped n ++ (34 ∷ rest))) ≡ next (word true n) rest
quoted_back n rest is a =
    ap (quoted_at (escaped n ++ (34 ∷ rest))) (closing_escaped n rest)
    ∙ (λ i. quoted_word (take_at (escaped n) (34 ∷ rest) (length (escaped n)) refl i) (drop_past (escaped n) rest i))
    ∙ cond-true _ _ _ a
    ∙ cond-false _ _ _ (clear_escaped false n is.clear)
    ∙ ap (λ l. sized l rest) (plain_escaped n)
    ∙ cond-false _ _ _ (ne_eqb (length n) 0 (λ z. omega (arith, z, is.some)))
    ∙ cond-false _ _ _ (le-ltb 64 (length n) is.short)

-- bare
free : (b : ℕ) → stops b ≡ false → (blank b ≡ false) × (eqb b 35 ≡ false) × (eqb b 58 ≡ false) × (eqb b 34 ≡ false)
free b e =
    let p = or_parts (ends b) (eqb b 34 || eqb b 92) e in
    let q = or_parts (blank b) (eqb b 58 || eqb b 35) p.0 in
    let r = or_parts (eqb b 58) (eqb b 35) q.1 in
    let s = or_parts (eqb b 34) (eqb b 92) p.1 in
    (q.0, r.1, r.0, s.0)

first_free : (b : ℕ) (bs : List ℕ) → position_or_len stops (b ∷ bs) ≡ suc (length bs) → (stops b ≡ false) × (position_or_len stops bs ≡ length bs)
first_free b bs e = at (stops b) e
  where
    at : (t : Bool) → cond (not t) (1 + position_or_len stops bs) 0 ≡ suc (length bs) → (t ≡ false) × (position_or_len stops bs ≡ length bs)
    at true q = absurd (omega arith)
    at false q = (refl, omega arith)

-- what may follow a word ends it
stops_apart : (rest : List ℕ) → apart rest ≡ true → position_or_len stops rest ≡ 0
stops_apart [] a = refl
stops_apart (b ∷ rest) a = cond-false _ _ _ (ap not (or_left (ends b) (eqb b 34 || eqb b 92) a))

stops_behind : (n rest : List ℕ) → position_or_len stops n ≡ length n → apart rest ≡ true → position_or_len stops (n ++ rest) ≡ length n
stops_behind [] rest all a = stops_apart rest a
stops_behind (b ∷ bs) rest all a =
    let f = first_free b bs all in
    cond-true _ _ _ (ap not f.0) ∙ omega (arith, stops_behind bs rest f.1 a)

bare_back : (n rest : List ℕ) → IsName n → position_or_len stops n ≡ length n → dash n ≡ false → apart rest ≡ true → bare (n ++ rest) ≡ next (word false n) rest
bare_back n rest is all named a =
    (λ i. bare_word (take (stops_behind n rest all a i) (n ++ rest)) (drop (stops_behind n rest all a i) (n ++ rest)))
    ∙ (λ i. bare_word (take_at n rest (length n) refl i) (drop_at n rest (length n) refl i))
    ∙ cond-false _ _ _ (ne_eqb (length n) 0 (λ z. omega (arith, z, is.some)))
    ∙ cond-true _ _ _ a
    ∙ cond-false _ _ _ is.clear
    ∙ cond-false _ _ _ named
    ∙ cond-false _ _ _ (le-ltb 64 (length n) is.short)

pub plain_back : (n rest : List ℕ) → IsName n → position_or_len stops n ≡ length n → dash n ≡ false → apart rest ≡ true → next_piece (n ++ rest) ≡ next (word false n) rest
plain_back [] rest is all named a = absurd (omega (arith, is.some))
plain_back (b ∷ bs) rest is all named a =
    let f = free b (first_free b bs all).0 in
    ap (λ m. next_dark (drop m (b ∷ (bs ++ rest)))) (cond-false (blank b) (1 + prefix_len blank (bs ++ rest)) 0 f.0)
    ∙ cond-false _ _ _ f.1 ∙ cond-false _ _ _ f.2 ∙ cond-false _ _ _ f.3
    ∙ bare_back (b ∷ bs) rest is all named a

-- whether a name is written in quotes
abbrev pub quotes : List ℕ → Bool
quotes n = not (plainly n)

pub name_back : (n rest : List ℕ) → IsName n → apart rest ≡ true → next_piece (spelling n ++ rest) ≡ next (word (quotes n) n) rest
name_back n rest is a = at (plainly n) refl
  where
    at : (t : Bool) → plainly n ≡ t → next_piece (cond t n (34 ∷ (escaped n ++ (34 ∷ []))) ++ rest) ≡ next (word (not t) n) rest
    at true q =
        let p = and_parts (not (eqb (length n) 0)) (eqb (position_or_len stops n) (length n) && not (dash n)) q in
        let r = and_parts (eqb (position_or_len stops n) (length n)) (not (dash n)) p.1 in
        plain_back n rest is (eqb-true (position_or_len stops n) (length n) r.0) (not-true (dash n) r.1) a
    at false q = ap (λ l. next_piece (34 ∷ l)) (append_assoc (escaped n) (34 ∷ []) rest) ∙ quoted_back n rest is a

pub means : (n bs : List ℕ) → bs ≡ spelling n → IsName n → Means n bs
means n bs e is = (quotes n, pieces_next bs (word (quotes n) n) [] (ap next_piece (e ∙ sym (append-nil (spelling n))) ∙ name_back n [] is refl) ∙ ap (λ ps. word (quotes n) n ∷ ps) (pieces_none [] refl))

pub made_means : {S E : Type 0} (f : S → List ℕ) (n : List ℕ) (r : Result S E) → IfOk r (λ s. f s ≡ spelling n) → IsName n → IfOk r (λ s. Means n (f s))
made_means f n (Ok s) h is = means n (f s) h is
made_means f n (Err e) h is = tt
