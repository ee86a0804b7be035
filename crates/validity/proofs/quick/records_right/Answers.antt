-- `validity::quick::records_right`: the mark, words, columns, single slots, ids. Assumes nothing.
use native.Mathlib.Omega.{arith}
use mathlib.Core.Path.{sym, ◌∙◌}
use Rattle.validity.proofs.LookLaws.{up_to, slots_told, ends_near, retains_near}
use Rattle.slot_words.proofs.WalkLaws.{refused}
use Rattle.validity.proofs.quick.records_right.Goals as goal

pub returns-then-used : goal.returns-then-used
returns-then-used c e = refused e

pub returns-then-not-words_right : goal.returns-then-not-words_right
returns-then-not-words_right c e = refused e

pub overflow_add-clock : goal.overflow_add-clock
overflow_add-clock c = let k = c.load_clock-clock.ensures in
    let m = c.requires.1 in omega (arith, k, m)

pub columns_right-requires : goal.columns_right-requires
columns_right-requires c =
    record {
      size = c.requires.0;
      slots = omega arith;
      mark = let e = c.load_used-used.ensures.0 in omega arith;
    }

pub returns-then-not-columns_right : goal.returns-then-not-columns_right
returns-then-not-columns_right c e = refused e

pub overflow_add-clock-2 : goal.overflow_add-clock-2
overflow_add-clock-2 c = let k = c.load_clock-clock.ensures in
    let m = c.requires.1 in omega (arith, k, m)

pub slots_right-requires : goal.slots_right-requires
slots_right-requires c =
    record {
      size = c.requires.0;
      slots = omega arith;
      mark = let e = c.load_used-used.ensures.0 in omega arith;
    }

pub returns-then-not-slots_right : goal.returns-then-not-slots_right
returns-then-not-slots_right c e = refused e

pub ids_distinct-requires : goal.ids_distinct-requires
ids_distinct-requires c =
    let u = c.load_used-used in
    up_to _ _ (omega arith)
    (c.words_right.ensures c.if-not-words_right.false)
    c.requires.0 u.ensures.1

pub returns : goal.returns
returns c e =
    let u = c.load_used-used in
    let k = c.load_clock-clock.ensures in
    let q = c.columns_right.ensures c.if-not-columns_right.false in
    let p = c.slots_right.ensures c.if-not-slots_right.false in
    record {
      slots = λ h.
          slots_told _ _ (omega arith)
          (c.words_right.ensures
          c.if-not-words_right.false) h
          (ends_near _ _ _ k q)
          (retains_near _ _ _ k p)
          u.ensures.1;
      ids = sym c.ids_distinct.ensures ∙ e;
    }
