-- A PAGE THAT IS PRESENT AND PRIVATE is writable as it is: the store stays.
use Rattle.std.specs.Prelude.{◌≡◌, List, ℕ, ◌<◌, Option, Some}
use Rattle.std.proofs.Common.{ap, sym, ◌∙◌}
use Rattle.store.specs.declared.Store.{Store}
use Rattle.ranges.specs.Range.{line}
use Rattle.book.specs.Work.{writable}
use Rattle.store.specs.Spare.{work_of}
use Rattle.look.specs.Look.{located, private_in}
use Rattle.pages.specs.Inside.{Inside, Stepped}
use Rattle.pages.specs.Private.{private_held}
use Rattle.pages.specs.Steps.{stay_stepped}

pub stays : (s : Store) (x : List ℕ) → Inside s x → (o p g f : ℕ) (found : Option ℕ) → p < 262144 → g ≡ line o p → found ≡ private_in s (located s g) → found ≡ Some f
    → Stepped s x o p (writable o p (work_of s x)) s x f
stays s x I o p g f found l e h k =
    let P = private_held s x I o p f (ap (λ z. private_in s (located s z)) (sym e) ∙ sym h ∙ k) in
    stay_stepped s x I o p l f P.present P.alone
