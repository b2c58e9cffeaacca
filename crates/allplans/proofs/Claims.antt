-- Claims that are read one by one.
use Rattle.std.proofs.Common.{◌≡◌, ℕ, zero, suc, ◌+◌, ◌*◌, ◌<◌, List, [], ◌∷◌, ◌++◌, length, get_or, drop, map, ap, sym, ◌∙◌, arith, below_more, get_or-take, get_or-drop}
use Rattle.std.specs.Simd.{first_chunks}
use Rattle.std.specs.List.{zip}
use Rattle.std.proofs.lemmas.List.{get_or_append_left, get_or_push, map-append, length-map}
use Rattle.std.proofs.lemmas.Simd.{map-map}
use Rattle.std.proofs.lemmas.Slice.Zip.{firsts-zip, seconds-zip}
use Rattle.allplans.specs.declared.answer.Claim.{Claim}
use Rattle.allplans.specs.Claims.{Paired, claims_of}

-- what stands in the pairs of a list
pub paired : (k : ℕ) (xs : List ℕ) (i j : ℕ) (d : List ℕ) → i < k → j < 2 → get_or (get_or (first_chunks 2 k xs) i d) j 0 ≡ get_or xs (2 * i + j) 0
paired zero xs i j d h b = absurd (omega arith)
paired (suc k) xs zero j d h b = let e : j ≡ 2 * 0 + j = omega arith in get_or-take 2 xs j 0 b ∙ ap (λ (n : ℕ). get_or xs n 0) e
paired (suc k) xs (suc i) j d h b =
    let e : 2 + (2 * i + j) ≡ 2 * suc i + j = omega arith in
    paired k (drop 2 xs) i j d (omega arith) b ∙ get_or-drop 2 xs (2 * i + j) 0 ∙ ap (λ (n : ℕ). get_or xs n 0) e

pub paired_first : (k : ℕ) (xs : List ℕ) (i : ℕ) (d : List ℕ) → i < k → get_or (get_or (first_chunks 2 k xs) i d) 0 0 ≡ get_or xs (2 * i) 0
paired_first k xs i d h = let e : 2 * i + 0 ≡ 2 * i = omega arith in paired k xs i 0 d h (omega arith) ∙ ap (λ (n : ℕ). get_or xs n 0) e

pub paired_second : (k : ℕ) (xs : List ℕ) (i : ℕ) (d : List ℕ) → i < k → get_or (get_or (first_chunks 2 k xs) i d) 1 0 ≡ get_or xs (2 * i + 1) 0
paired_second k xs i d h = paired k xs i 1 d h (omega arith)

-- one claim more is pushed
pub told_more : (f : Claim → ℕ) (cs cs' : List Claim) (c : Claim) (n : ℕ) (target : ℕ → ℕ) → length cs ≡ n → cs' ≡ cs ++ (c ∷ []) → f c ≡ target n → ((v : ℕ) → v < n → get_or (map f cs) v 0 ≡ target v) → (v : ℕ) → v < n + 1 → get_or (map f cs') v 0 ≡ target v
told_more f cs cs' c n target len e here inv =
    let long : length (map f cs) ≡ n = length-map cs f ∙ len in
    let more : map f cs' ≡ map f cs ++ (f c ∷ []) = ap (map f) e ∙ map-append f cs (c ∷ []) in
    below_more (λ v. get_or (map f cs') v 0 ≡ target v) n
    (λ v h. ap (λ (q : List ℕ). get_or q v 0) more ∙ (get_or_append_left (map f cs) (f c ∷ []) 0 v (omega arith) ∙ inv v h))
    (ap (λ (q : List ℕ). get_or q n 0) more ∙ (get_or_push (map f cs) (f c) 0 n long ∙ here))

-- claims that were made of two lists tell them again
pub told_again : (won goes : List ℕ) (claims : List Claim) → length won ≡ length goes → claims ≡ claims_of won goes → Paired won goes claims
told_again won goes claims level e = (
  ap (map (λ (c : Claim). c.winner)) e ∙ (map-map (λ (c : Claim). c.winner) _ (zip won goes) ∙ firsts-zip won goes (sym level)),
  ap (map (λ (c : Claim). c.goes)) e ∙ (map-map (λ (c : Claim). c.goes) _ (zip won goes) ∙ seconds-zip won goes (sym level)),
)
