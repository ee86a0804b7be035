use Prim.Native.Nat.{ℕ, ◌*◌}
use native.Mathlib.Omega.{arith}
use borrow.Author.Rules.{rules}
use mathlib.Core.Path.{◌≡◌, sym, ap, ◌∙◌}
use mathlib.Core.Bool.{false}
use lib.ListN.{get_or}
use Rattle.index.specs.Index.{count}
use Rattle.index.proofs.Index.{count_none, count_bound}
use Rattle.words.specs.Words.{word_bits, word_count, bits, bits_of}
use Rattle.words.proofs.WideLaws.{count_word}
use Rattle.words.proofs.size.Goals as goal

pub loop-w-init : goal.loop-w-init
loop-w-init c = (omega arith, search rules, omega arith, sym (count_none _))

pub overflow_add-n : goal.overflow_add-n
overflow_add-n c =
    let l = c.loop-w in
    let b = count_bound (λ s. get_or (bits word_bits (get_or c.args.m l.w-index 0)) s false) word_bits in
    let e = c.ones-n.ensures in
    omega arith

pub loop-w-preserved : goal.loop-w-preserved
loop-w-preserved c =
    let m = c.args.m in
    let l = c.loop-w in
    let b = count_bound (λ s. get_or (bits word_bits (get_or m l.w-index 0)) s false) word_bits in
    let e = c.ones-n.ensures in
    (omega arith, l.invariant.1, omega arith, count_word m l.w-index l.n c.ones-n.result (omega arith) l.invariant.3 e)

pub returns : goal.returns
returns c =
    let l = c.loop-w in
    let m = c.args.m in
    let e : l.w-index ≡ word_count = omega arith in
    l.invariant.3 ∙ ap (λ (k : ℕ). count (word_bits * k) (λ s. get_or (bits_of m) s false)) e
