use Prim.Native.Nat.{◌+◌}
use native.Mathlib.Omega.{arith}
use borrow.Author.Rules.{rules}
use mathlib.Core.Path.{◌≡◌, sym, ap, ◌∙◌}
use mathlib.Core.Bool.{Bool, true, false, ◌&&◌}
use lib.ListN.{length, get_or}
use lib.Dec.{ltb}
use Rattle.records.specs.Records.{slot_count}
use Rattle.words.specs.Words.{word_count, bits_of}
use Rattle.words.proofs.WideLaws.{bits_of_length}
use Rattle.sets.specs.Sets.{at}
use Rattle.sets.proofs.MedianLaws.{Kept, kept_none, kept_all, kept_passed, kept_many, kept_taken}
use Rattle.sets.proofs.median.middle.Goals.{then-at-r+then-few_below, then-at-r+else-few_below, else-at-r}
use Rattle.sets.proofs.median.middle.Goals as goal

pub loop-i-init : goal.loop-i-init
loop-i-init c =
    let a = c.args in
    let l : length a.m ≡ word_count = search rules in
    let m : length (bits_of a.m) ≡ slot_count = let e = bits_of_length a.m in omega arith in
    let s = c.requires.scores_len in
    (omega arith, m, s, kept_none a.k (bits_of a.m) a.scores.now (m ∙ sym s))

pub bounds-scores-i : goal.bounds-scores-i
bounds-scores-i c = let l = c.loop-i.invariant.2 in omega arith

pub few_below-requires : goal.few_below-requires
few_below-requires c = c.loop-i.invariant.2

pub loop-i-preserved : goal.loop-i-preserved
loop-i-preserved c =
    let a = c.args in
    let l = c.loop-i in
    let m = bits_of a.m in
    let scores = a.scores.now in
    let seen : (x : Bool) → c.at.result && ltb l.r (get_or scores l.i 0) ≡ x →
    at m l.i && ltb l.r (get_or scores l.i 0) ≡ x =
    λ x e. ap (λ (b : Bool). b && ltb l.r (get_or scores l.i 0)) (sym c.at.ensures) ∙ e in
    let kept : Kept a.k m scores (l.i + 1) c.if-at-r.r =
    elim c.if-at-r.branch [
      | then-at-r+then-few_below w ↦ kept_taken _ _ _ _ _ _ l.invariant.3 w.r-is (seen true w.if-at-r.true) (sym w.few_below.ensures ∙ w.if-few_below.true)
      | then-at-r+else-few_below w ↦ kept_many _ _ _ _ _ _ l.invariant.3 w.r-is (sym w.few_below.ensures ∙ w.if-few_below.false)
      | else-at-r w ↦ kept_passed _ _ _ _ _ _ l.invariant.3 w.r-is (seen false w.if-at-r.false)
    ] in
    (omega arith, l.invariant.1, l.invariant.2, kept)

pub returns : goal.returns
returns c =
    let a = c.args in
    let l = c.loop-i in
    kept_all a.k (bits_of a.m) a.scores.now (l.invariant.1 ∙ sym l.invariant.2) c.requires.k_bound l.i l.r (omega arith) l.invariant.3
