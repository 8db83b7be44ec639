-- LINES ANSWERED, one after another, and a part of the input done: which lines were answered, and what is left.
use Rattle.std.specs.Prelude.{◌≡◌, refl, List, [], ◌∷◌, ◌++◌, ℕ, suc, ◌+◌, ◌-◌, ◌≤◌, ◌<◌, min, length, take, drop}
use Rattle.std.proofs.Common.{ap, subst, sym, ◌∙◌, append_assoc, append-nil, arith, add-one, length-drop}
use Rattle.std.proofs.lemmas.List.{take_rest}
use Rattle.console.specs.Scan.{index_of}
use Rattle.store.specs.declared.Store.{Store}
use Rattle.lines.specs.Buffers.{take_least}
use Rattle.lines.specs.Did.{LineDid}
use Rattle.console.specs.Lines.{feed, cut, ended, underway, last, ended_next, underway_next, ended_none, underway_none, cut_cut}

-- ONE LINE, as `lines::answer` promises: line, store and pool before, digits printed, store and pool after
abbrev pub Said : List ℕ → Store → List ℕ → List ℕ → Store → List ℕ → Type 0
Said line s x d t y = LineDid line s x d t y

-- A RUN over a list of lines: each gets the store and the pool as the last one left them. "It prints one line each"
pub data Answers : Store → List ℕ → List (List ℕ) → List ℕ → Store → List ℕ → Type 0 where
  nothing : {s : Store} {x : List ℕ} → Answers s x [] [] s x
  then : {s t u : Store} {x y z : List ℕ} {ls : List (List ℕ)} {o : List ℕ} (line d : List ℕ)
      → Answers s x ls o t y → Said line t y d u z → Answers s x (ls ++ (line ∷ [])) (o ++ (d ++ (feed ∷ []))) u z

-- one more line answered behind the output o
pub record Spoke (line : List ℕ) (s : Store) (x o : List ℕ) (t : Store) (y p : List ℕ) : Type 0 where
  pub digits : List ℕ
  pub said : Said line s x digits t y
  pub printed : p ≡ o ++ (digits ++ (feed ∷ []))

-- a line of which nothing is held, and one that goes on from what is held
pub spoke_whole : (l held o p : List ℕ) (k : ℕ) (s t : Store) (x y : List ℕ) → length held ≡ 0 → k ≡ min 513 (length l) → Spoke (take k l) s x o t y p
    → Spoke (cut (held ++ l)) s x o t y p
spoke_whole l [] o p k s t x y e f S = subst (λ z. Spoke z s x o t y p) (ap (λ j. take j l) f ∙ take_least 513 l) S
spoke_whole l (b ∷ held) o p k s t x y e f S = absurd (omega arith)

pub spoke_held : (l held next o p : List ℕ) (s t : Store) (x y : List ℕ) → next ≡ cut (held ++ l) → Spoke next s x o t y p → Spoke (cut (held ++ l)) s x o t y p
spoke_held l held next o p s t x y e S = subst (λ z. Spoke z s x o t y p) e S

-- A PART OF THE INPUT DONE. Before it: store s, pool x, the bytes h of the line under way, the bytes c to come. After it: t, y, g, r. Printed: o.
pub record Done (s : Store) (x h c : List ℕ) (t : Store) (y g r o : List ℕ) : Type 0 where
  pub lines : List (List ℕ)
  pub run : Answers s x lines o t y
  pub ending : ended h c ≡ lines ++ ended g r
  pub going : underway h c ≡ underway g r

pub done_nothing : (s : Store) (x h c : List ℕ) → Done s x h c s x h c []
done_nothing s x h c = record { lines = []; run = nothing; ending = refl; going = refl }

pub done_begun : (s : Store) (x h c o : List ℕ) → o ≡ [] → Done s x h c s x h c o
done_begun s x h c o e = subst (Done s x h c s x h c) (sym e) (done_nothing s x h c)

next_run : {s t u : Store} {x y z o p line : List ℕ} {ls : List (List ℕ)} → Answers s x ls o t y → Spoke line t y o u z p → Answers s x (ls ++ (line ∷ [])) p u z
next_run {s = s} {u = u} {x = x} {z = z} {line = line} {ls = ls} A S =
    subst (λ q. Answers s x (ls ++ (line ∷ [])) q u z) (sym S.printed) (then line S.digits A S.said)

-- a line feed at index i of what is left
pub done_line : {s t u : Store} {x h c y g r o z p : List ℕ} (i : ℕ) → Done s x h c t y g r o → index_of feed r ≡ i → i < length r
    → Spoke (cut (g ++ take i r)) t y o u z p → Done s x h c u z [] (drop (suc i) r) p
done_line {s = s} {u = u} {x = x} {g = g} {r = r} {z = z} {p = p} i D e k S = record {
  lines = D.lines ++ (cut (g ++ take i r) ∷ []);
  run = next_run D.run S;
  ending = D.ending ∙ ap (λ l. D.lines ++ l) (ended_next g r i e k) ∙ sym (append_assoc D.lines (cut (g ++ take i r) ∷ []) (ended [] (drop (suc i) r)));
  going = D.going ∙ underway_next g r i e k;
}

-- the same of the slice behind the line feed, with nothing held
pub line_law : {s t u : Store} {x h c y g r o z k p : List ℕ} (i : ℕ) → Done s x h c t y g r o → index_of feed r ≡ i → i < length r
    → Spoke (cut (g ++ take i r)) t y o u z p → k ≡ [] → Done s x h c u z k (take (length r - (i + 1)) (drop (i + 1) r)) p
line_law {s = s} {u = u} {x = x} {h = h} {c = c} {r = r} {z = z} {p = p} i D e l S f =
    let q : drop (suc i) r ≡ take (length r - (i + 1)) (drop (i + 1) r) = ap (λ n. drop n r) (sym (add-one i)) ∙ sym (take_rest r (i + 1)) in
    subst (λ w. Done s x h c u z w (take (length r - (i + 1)) (drop (i + 1) r)) p) (sym f)
    (subst (λ w. Done s x h c u z [] w p) q (done_line i D e l S))

-- and it is shorter
module _ (r : List ℕ) (i n : ℕ) (h : length r ≤ n) (l : i < length r) where
  shorter : length (take (length r - (i + 1)) (drop (i + 1) r)) + 1 ≤ n
  shorter =
      let e : length (take (length r - (i + 1)) (drop (i + 1) r)) ≡ length r - (i + 1) = ap length (take_rest r (i + 1)) ∙ length-drop (i + 1) r in
      omega arith

  pub rest_left : length (take (length r - (i + 1)) (drop (i + 1) r)) ≤ n
  rest_left = let e = shorter in omega (arith, e)

  pub rest_not_whole : length (take (length r - (i + 1)) (drop (i + 1) r)) ≡ n → ⊥
  rest_not_whole f = let e = shorter in omega (arith, e)

-- no line feed left: the rest goes on with the line under way
pub done_rest : {s t : Store} {x h c y g r o : List ℕ} → Done s x h c t y g r o → index_of feed r ≡ length r → Done s x h c t y (cut (g ++ r)) [] o
unfolding ended underway
done_rest {g = g} {r = r} D e = record {
  lines = D.lines;
  run = D.run;
  ending = D.ending ∙ ap (λ l. D.lines ++ l) (ended_none g r e);
  going = D.going ∙ underway_none g r e ∙ sym (cut_cut 513 (g ++ r));
}

-- nothing left: the lines are those that end in the part, and the line under way is what is held
pub done_all : {s t : Store} {x h c y g o : List ℕ} → Done s x h c t y g [] o → Answers s x (ended h c) o t y
unfolding ended
done_all {s = s} {t = t} {x = x} {h = h} {c = c} {y = y} {o = o} D = subst (λ l. Answers s x l o t y) (sym (D.ending ∙ append-nil D.lines)) D.run

-- ---- part after part

pub answers_append : {s t u : Store} {x y z : List ℕ} {ls ms : List (List ℕ)} {o p : List ℕ} → Answers s x ls o t y → Answers t y ms p u z
    → Answers s x (ls ++ ms) (o ++ p) u z
answers_append {s = s} {t = t} {x = x} {y = y} {ls = ls} {o = o} A nothing =
    subst (λ l. Answers s x l (o ++ []) t y) (sym (append-nil ls)) (subst (λ q. Answers s x ls q t y) (sym (append-nil o)) A)
answers_append {s = s} {u = u} {x = x} {z = z} {ls = ls} {o = o} A (then {ls = ms} {o = p} line d B S) =
    subst (λ l. Answers s x l (o ++ (p ++ (d ++ (feed ∷ [])))) u z) (append_assoc ls ms (line ∷ []))
    (subst (λ q. Answers s x ((ls ++ ms) ++ (line ∷ [])) q u z) (append_assoc o p (d ++ (feed ∷ []))) (then line d (answers_append A B) S))

pub done_then : {s t u : Store} {x h c y g r o z k q p : List ℕ} → Done s x h c t y g r o → Done t y g r u z k q p → Done s x h c u z k q (o ++ p)
done_then {k = k} {q = q} D E = record {
  lines = D.lines ++ E.lines;
  run = answers_append D.run E.run;
  ending = D.ending ∙ ap (λ l. D.lines ++ l) E.ending ∙ sym (append_assoc D.lines E.lines (ended k q));
  going = D.going ∙ E.going;
}

-- A CHUNK c DONE: whatever was printed in its course, it is the answers to the lines that end in the chunk; what is held is the line under way
pub record Fed (s : Store) (x h c : List ℕ) (t : Store) (y g : List ℕ) : Type 0 where
  pub printed : List ℕ
  pub run : Answers s x (ended h c) printed t y
  pub held : underway h c ≡ cut g

-- a chunk l done but for the bytes r
pub record Upto (s : Store) (x h l : List ℕ) (t : Store) (y g r : List ℕ) : Type 0 where
  pub printed : List ℕ
  pub part : Done s x h l t y g r printed

pub upto_none : (s : Store) (x h l : List ℕ) → Upto s x h l s x h l
upto_none s x h l = record { printed = []; part = done_nothing s x h l }

pub upto_more : {s t u : Store} {x h l y g r z k q p : List ℕ} → Upto s x h l t y g r → Done t y g r u z k q p → Upto s x h l u z k q
upto_more {p = p} U D = record { printed = U.printed ++ p; part = done_then U.part D }

pub upto_all : {s t : Store} {x h l y g : List ℕ} (r : List ℕ) → Upto s x h l t y g r → length r ≡ 0 → Fed s x h l t y g
unfolding underway
upto_all [] U b = record { printed = U.printed; run = done_all U.part; held = U.part.going }
upto_all (c ∷ r) U b = absurd (omega arith)

-- ---- the end of the input: what is held is the last line, where there is anything

pub last_none : (l : List ℕ) (s : Store) (x : List ℕ) → length l ≡ 0 → Answers s x (last l) [] s x
last_none [] s x e = nothing
last_none (b ∷ l) s x e = absurd (omega arith)

pub last_some : (l : List ℕ) (s t : Store) (x y p : List ℕ) → 0 < length l → Spoke l s x [] t y p → Answers s x (last l) p t y
last_some [] s t x y p h S = absurd (omega arith)
last_some (b ∷ l) s t x y p h S = next_run nothing S
