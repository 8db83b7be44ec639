-- LINES OF INPUT: "Lines end in a line feed; the last one's may be missing." Input comes in parts of any length, and what is kept of a line is its first 513
-- bytes: a longer one has over 512 digits or another character, whatever follows.
use Rattle.std.specs.Prelude.{◌≡◌, refl, true, false, List, [], ◌∷◌, ◌++◌, ℕ, zero, suc, ◌<◌, length, take, drop, eqb}
use Rattle.std.proofs.Common.{ap, ap₂, sym, ◌∙◌, append_assoc, append-nil, not-suc-le-zero, arith, length-take, take_all}
use Rattle.lists.specs.Test.{pick, by-test, by-lt}
use Rattle.console.specs.Scan.{index_of}

abbrev pub feed : ℕ
feed = 10

abbrev pub cut : List ℕ → List ℕ
cut l = take 513 l

-- the lines that end in the bytes c, where the bytes h of the first one have come before
unfoldable pub ended : List ℕ → List ℕ → List (List ℕ)
ended h [] = []
ended h (x ∷ c) = pick (eqb x feed) (cut h ∷ ended [] c) (ended (h ++ (x ∷ [])) c)

-- the line under way after them
unfoldable pub underway : List ℕ → List ℕ → List ℕ
underway h [] = cut h
underway h (x ∷ c) = pick (eqb x feed) (underway [] c) (underway (h ++ (x ∷ [])) c)

-- at the end of the input: where the last line feed is missing, the line under way is one too
abbrev pub last : List ℕ → List (List ℕ)
last [] = []
last (x ∷ l) = (x ∷ l) ∷ []

-- ---- a definition that says the same of every line over 512 bytes does not see the cut

pub cut_unseen : {A : Type 0} (f : List ℕ → A) (z : A) → ((l : List ℕ) → 512 < length l → f l ≡ z) → (l : List ℕ) → f (cut l) ≡ f l
cut_unseen f z h l = by-lt 512 (length l)
    (λ k. h (cut l) (omega (arith, length-take 513 l)) ∙ sym (h l k))
    (λ k. ap f (take_all 513 l (omega arith)))

-- ---- what is cut off does not matter

pub cut_append : (n : ℕ) (h z : List ℕ) → take n (take n h ++ z) ≡ take n (h ++ z)
cut_append zero h z = refl
cut_append (suc n) [] z = refl
cut_append (suc n) (x ∷ h) z = ap (λ l. x ∷ l) (cut_append n h z)

pub cut_cut : (n : ℕ) (h : List ℕ) → take n (take n h) ≡ take n h
cut_cut n h = ap (take n) (sym (append-nil (take n h))) ∙ cut_append n h [] ∙ ap (take n) (append-nil h)

same_more : (h g z : List ℕ) → cut h ≡ cut g → cut (h ++ z) ≡ cut (g ++ z)
same_more h g z e = sym (cut_append 513 h z) ∙ ap (λ l. cut (l ++ z)) e ∙ cut_append 513 g z

pub ended_same : (h g c : List ℕ) → cut h ≡ cut g → ended h c ≡ ended g c
unfolding ended
ended_same h g [] e = refl
ended_same h g (x ∷ c) e =
    ap₂ (λ l m. pick (eqb x feed) (l ∷ ended [] c) m) e (ended_same (h ++ (x ∷ [])) (g ++ (x ∷ [])) c (same_more h g (x ∷ []) e))

pub underway_same : (h g c : List ℕ) → cut h ≡ cut g → underway h c ≡ underway g c
unfolding underway
underway_same h g [] e = e
underway_same h g (x ∷ c) e = ap (λ m. pick (eqb x feed) (underway [] c) m) (underway_same (h ++ (x ∷ [])) (g ++ (x ∷ [])) c (same_more h g (x ∷ []) e))

-- ---- IN WHATEVER PARTS THE INPUT COMES, the lines are the same

pub underway_append : (h c d : List ℕ) → underway h (c ++ d) ≡ underway (underway h c) d
unfolding underway
underway_append h [] d = underway_same h (cut h) d (sym (cut_cut 513 h))
underway_append h (x ∷ c) d = by-test (eqb x feed)
    (λ t. rw t (underway_append [] c d))
    (λ t. rw t (underway_append (h ++ (x ∷ [])) c d))

pub ended_append : (h c d : List ℕ) → ended h (c ++ d) ≡ ended h c ++ ended (underway h c) d
unfolding ended underway
ended_append h [] d = ended_same h (cut h) d (sym (cut_cut 513 h))
ended_append h (x ∷ c) d = by-test (eqb x feed)
    (λ t. rw t (ap (λ l. cut h ∷ l) (ended_append [] c d)))
    (λ t. rw t (ended_append (h ++ (x ∷ [])) c d))

-- ---- the next line feed

index_here : (x : ℕ) (c : List ℕ) → eqb x feed ≡ true → index_of feed (x ∷ c) ≡ 0
unfolding index_of
index_here x c t = rw t

index_later : (x : ℕ) (c : List ℕ) → eqb x feed ≡ false → index_of feed (x ∷ c) ≡ suc (index_of feed c)
unfolding index_of
index_later x c t = rw t

-- bytes with a line feed at index i: the line ends there
pub ended_next : (h c : List ℕ) (i : ℕ) → index_of feed c ≡ i → i < length c → ended h c ≡ cut (h ++ take i c) ∷ ended [] (drop (suc i) c)
unfolding ended
ended_next h [] i e k = absurd (not-suc-le-zero k)
ended_next h (x ∷ c) i e k = by-test (eqb x feed)
    (λ t. let z : 0 ≡ i = sym (index_here x c t) ∙ e in rw (← z, t, append-nil))
    (λ t.
    let z : suc (index_of feed c) ≡ i = sym (index_later x c t) ∙ e in
    let f : ended (h ++ (x ∷ [])) c ≡ cut (h ++ (x ∷ take (index_of feed c) c)) ∷ ended [] (drop (suc (index_of feed c)) c) =
    ended_next (h ++ (x ∷ [])) c (index_of feed c) refl (omega arith)
    ∙ ap (λ l. cut l ∷ ended [] (drop (suc (index_of feed c)) c)) (append_assoc h (x ∷ []) (take (index_of feed c) c)) in
    rw (← z, t) f)

pub underway_next : (h c : List ℕ) (i : ℕ) → index_of feed c ≡ i → i < length c → underway h c ≡ underway [] (drop (suc i) c)
unfolding underway
underway_next h [] i e k = absurd (not-suc-le-zero k)
underway_next h (x ∷ c) i e k = by-test (eqb x feed)
    (λ t. let z : 0 ≡ i = sym (index_here x c t) ∙ e in rw (← z, t))
    (λ t.
    let z : suc (index_of feed c) ≡ i = sym (index_later x c t) ∙ e in
    let f : underway (h ++ (x ∷ [])) c ≡ underway [] (drop (suc (index_of feed c)) c) = underway_next (h ++ (x ∷ [])) c (index_of feed c) refl (omega arith) in
    rw (← z, t) f)

-- bytes with no line feed go on with the line
pub ended_none : (h c : List ℕ) → index_of feed c ≡ length c → ended h c ≡ []
unfolding ended
ended_none h [] k = refl
ended_none h (x ∷ c) k = by-test (eqb x feed)
    (λ t. let z : 0 ≡ length (x ∷ c) = sym (index_here x c t) ∙ k in absurd (omega arith))
    (λ t. let z : suc (index_of feed c) ≡ length (x ∷ c) = sym (index_later x c t) ∙ k in rw t (ended_none (h ++ (x ∷ [])) c (omega arith)))

pub underway_none : (h c : List ℕ) → index_of feed c ≡ length c → underway h c ≡ cut (h ++ c)
unfolding underway
underway_none h [] k = ap cut (sym (append-nil h))
underway_none h (x ∷ c) k = by-test (eqb x feed)
    (λ t. let z : 0 ≡ length (x ∷ c) = sym (index_here x c t) ∙ k in absurd (omega arith))
    (λ t.
    let z : suc (index_of feed c) ≡ length (x ∷ c) = sym (index_later x c t) ∙ k in
    rw t (underway_none (h ++ (x ∷ [])) c (omega arith) ∙ ap cut (append_assoc h (x ∷ []) c)))
