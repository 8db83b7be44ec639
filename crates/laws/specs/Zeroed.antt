-- Steps that leave zeros, as changes of files: whole pages left uncovered, a page added, bytes cleared in a part of a page; for any page size.
use Rattle.std.specs.Prelude.{◌≡◌, refl, List, ℕ, suc, ◌+◌, ◌-◌, ◌*◌, ◌/◌, ◌%◌, ◌≤◌, ◌<◌, eqb, length, get_or, replicate, Option, Some, None}
use Rattle.std.proofs.Common.{ap, ◌∙◌, ⊎_elim, arith, eq-eqb, ne_eqb, div-add-mod', mod-lt}
use Rattle.std.proofs.lemmas.List.{length-replicate, get_or-replicate}
use Rattle.lists.specs.Test.{pick, by-eq}
use Rattle.ranges.specs.Range.{line}
use Rattle.book.specs.Page.{over}
use Rattle.book.specs.Work.{Work, page_of, seen, blank, write_page, add_page}
use Rattle.book.specs.Bytes.{byte_at, clear, cleared}
use Rattle.book.specs.Pages.{uncover}
use Rattle.book.specs.Need.{wants}
use Rattle.laws.specs.State.{Good, spare_room}
use Rattle.laws.specs.Rewrites.{Rewrites, at_place, rewrites_as, rewrites_none, rewrites_cast, pages_rewrite}
use Rattle.laws.specs.Taken.{writing_one, wanted_one}
use Rattle.laws.specs.Way.{Way, add_page_way}
use Rattle.laws.specs.Writing.{writing_rewrites}
use Rattle.laws.specs.PageLaw.{way_size, way_here, way_elsewhere}
use Rattle.laws.specs.SharedPages.{uncover_in, uncover_out}

-- the page size stays
pub uncover_size : (o p n : ℕ) (w : Work) → (uncover o p n w).size ≡ w.size
unfolding uncover
uncover_size o p n w = by-eq n 0 (λ e. rw (eq-eqb n 0 e)) (λ e. rw (ne_eqb n 0 e))

-- whole pages left uncovered read as zeros
pub uncover_zeros : (o p n : ℕ) (w : Work) → 4096 ≤ w.size → p + n ≤ 262144 → Rewrites o (p * w.size) ((p + n) * w.size) (λ _. 0) w (uncover o p n w)
uncover_zeros o p n w hs top =
    rewrites_as o (p * w.size) ((p + n) * w.size) (λ y. get_or (replicate w.size 0) (y % w.size) 0) (λ _. 0) w (uncover o p n w)
    (λ y l m. get_or-replicate w.size (y % w.size) 0 0 (mod-lt y {m = w.size} (omega arith)))
    (pages_rewrite o p n (λ _. None) w (uncover o p n w) hs (uncover_size o p n w) top
    (λ j l. uncover_in o p n w (line o (p + j)) (omega arith) (omega arith)) (uncover_out o p n w))

-- a page added, with a frame for it, reads as zeros
pub add_zeros : (o p : ℕ) (w : Work) → Good w → 4096 ≤ w.size → p < 262144 → 0 < length w.spare → Rewrites o (p * w.size) (suc p * w.size) (λ _. 0) w (add_page o p w)
add_zeros o p w G hs hp h =
    let way : Way o p w (blank w) (add_page o p w) = add_page_way o p w G.whole hp in
    rewrites_cast o (p * w.size) (p * w.size) ((p + 1) * w.size) (suc p * w.size) (λ _. 0) w (add_page o p w) refl (ap (λ m. m * w.size) (omega arith))
    (rewrites_as o (p * w.size) ((p + 1) * w.size) (λ y. get_or (replicate w.size 0) (y % w.size) 0) (λ _. 0) w (add_page o p w)
    (λ y l m. get_or-replicate w.size (y % w.size) 0 0 (mod-lt y {m = w.size} (omega arith)))
    (pages_rewrite o p 1 (λ _. Some (blank w)) w (add_page o p w) hs (way_size o p _ w _ way) (omega arith)
    (λ j l. let e : p + j ≡ p = omega arith in rw e (way_here o p _ w _ way G.whole (spare_room w G.whole h)))
    (λ g c. way_elsewhere o p _ w _ way G.whole G.tight g (λ e. ⊎_elim (λ (l : g < line o p). omega arith) (λ (l : line o p + 1 ≤ g). omega arith) c))))

-- n bytes of one page cleared: with a frame, if the page is present and wants one, they read as zeros
module _ (o x n : ℕ) (w : Work) (G : Good w) (hs : 4096 ≤ w.size) (fit : x % w.size + n ≤ w.size) (h : x + n ≤ 1073741824)
    (ok : (y : List ℕ) → page_of (line o (x / w.size)) w ≡ Some y → pick (eqb n 0) 0 (wants o (x / w.size) w) ≤ length w.spare) where
  abbrev p : ℕ
  p = x / w.size

  back : p * w.size + x % w.size ≡ x
  back = div-add-mod' x w.size

  absent_zeros : page_of (line o p) w ≡ None → Rewrites o x (x + n) (λ _. 0) w w
  absent_zeros e = record {
    within = λ y l m.
        let r : ℕ = y - p * w.size in
        let q : y ≡ p * w.size + r = omega (arith, back) in
        ap (λ z. byte_at o z w) q ∙ at_place o p r w.size w refl (omega (arith, back))
        ∙ ap (λ t. get_or (seen w.size t) r 0) e ∙ get_or-replicate w.size r 0 0 (omega (arith, back));
    outside = λ o' y b c. refl;
  }

  -- a present page is written with zeros
  present_zeros : 0 < n → (z : List ℕ) → page_of (line o p) w ≡ Some z → Rewrites o x (x + n) (λ _. 0) w (write_page o p (over (x % w.size) (replicate n 0)) w)
  present_zeros hn z e =
      let l0 : length (replicate {A = ℕ} n 0) ≡ n = length-replicate n 0 in
      let f : x % w.size + length (replicate {A = ℕ} n 0) ≤ w.size = omega arith in
      rw (← writing_one o x (replicate n 0) w (omega arith) f)
      (rewrites_as o x (x + n) _ (λ _. 0) w _ (λ y a b. get_or-replicate n (y - x) 0 0 (omega arith))
      (rewrites_cast o x x (x + length (replicate {A = ℕ} n 0)) (x + n) _ w _ refl (omega arith)
      (writing_rewrites o x (replicate n 0) w G hs (omega arith) (rw (wanted_one w.size x (length (replicate {A = ℕ} n 0)) (omega arith) f o p w, l0) (ok z e)))))

  pub clear_zeros : Rewrites o x (x + n) (λ _. 0) w (clear o x n w)
  unfolding clear
  clear_zeros =
      by-eq n 0
      (λ e. rw (eq-eqb n 0 e) (rewrites_none o x (x + n) (λ _. 0) w w (omega arith) refl))
      (λ e. rw (ne_eqb n 0 e) (go (omega arith) (page_of (line o p) w) refl))
    where
      go : 0 < n → (t : Option (List ℕ)) → page_of (line o p) w ≡ t → Rewrites o x (x + n) (λ _. 0) w (cleared o p (x % w.size) n w t)
      go hn None e = absent_zeros e
      go hn (Some z) e = present_zeros hn z e
