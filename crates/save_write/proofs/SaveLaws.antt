-- The ends of `save` and of what it calls.
-- Assumes nothing.
use Rattle.std.proofs.Common.{Result, Ok, Err}
use Rattle.saves.specs.declared.SaveError.{SaveError}
use Rattle.saves.specs.declared.SaveError.TheVariants.{Early, NotRouter, OutOfRange, Short}
use Prim.Native.Nat.{ℕ, zero, suc, ◌+◌, ◌<◌, ◌≤◌}
use native.Mathlib.Omega.{arith}
use mathlib.Core.Path.{◌≡◌, sym, ap, ◌∙◌}
use mathlib.Core.Bool.{true, false}
use mathlib.Core.List.{List, [], ◌∷◌, ◌++◌}
use borrow.Author.Tests.{lt-ltb, le-ltb}
use lib.Dec.{ltb}
use lib.ListN.{length, take, drop, length-append}
use lib.Seq.{sets, take_at, length-take-le}
use Rattle.index.proofs.Flags.{cond_case}
use Rattle.index.proofs.Lists.{sets_append}
use Rattle.params.proofs.ParamLaws.{general}
use Rattle.records.specs.Records.{State, slot_count, code_in}
use Rattle.effects.specs.Effects.{retain_seconds}
use Rattle.validity.specs.Valid.{max_time, valid}
use Rattle.validity.proofs.ValidLaws.{valid_facts}
use Rattle.saves.specs.Save.{is_saved, edition, bytes_of, save_of, Saving, storing, saving_of}
use Rattle.sorting.specs.Sorting.{sorted}
use Rattle.sorting.proofs.SortLaws.{length_sorted}
use Rattle.save_write.specs.Keys.{key_of, keys_below, keys_of}
use Rattle.save_write.specs.Stands.{rows_of, Stands}
use Rattle.save_write.proofs.KeyLaws.{slots_are}
use Rattle.save_write.proofs.WriteLaws.{save_is}

abbrev pub Gives : Saving → Result ℕ SaveError → List ℕ → Type 0
Gives o r out = (r ≡ o.answer) × (out ≡ o.bytes)

-- ---- how many keys there are
few_below : (st : State) (time n : ℕ) → length (keys_below st time n) ≤ n
unfolding keys_below
few_below st time zero = omega arith
few_below st time (suc n) =
    cond_case (λ (l : List ℕ). length l ≤ suc n) (is_saved st time n) (key_of st n ∷ keys_below st time n) (keys_below st time n)
    (λ e. let b = few_below st time n in omega arith)
    (λ e. let b = few_below st time n in omega arith)

pub keys_few : (st : State) (time : ℕ) (keys : List ℕ) → keys ≡ sorted (keys_of st time) → length keys ≤ slot_count
keys_few st time keys e = omega (arith, ap length e, length_sorted (keys_of st time), few_below st time slot_count)

-- ---- the ends of `write_save`
module _ (st : State) (v : valid st ≡ true) (time : ℕ) (keys : List ℕ) (e : keys ≡ sorted (keys_of st time)) (a b : ℕ) where
  abbrev front : List ℕ
  front = bytes_of (edition ∷ length keys ∷ [])

  abbrev rest : List ℕ
  rest = bytes_of (rows_of st time keys)

  whole : save_of st time ≡ front ++ rest
  whole = save_is st time keys (slots_are st v time keys e)

  module _ (ea : a ≡ length front) (eb : b ≡ length rest) (buf : List ℕ) where
    size : a + b ≡ length (save_of st time)
    size = omega (arith, ap length whole, length-append front rest)

    pub write_short : length buf < a + b → Gives (storing (save_of st time) buf) (Err Short) buf
    write_short h =
        let t : ltb (length buf) (length (save_of st time)) ≡ true = lt-ltb (length buf) (length (save_of st time)) (omega (arith, size)) in
        (rw t, rw t)

    -- what is written finds room
    pub write_room : a + b ≤ length buf → 0 + length front ≤ length buf
    write_room h = omega arith

    module _ (at : ℕ) (mid : List ℕ) (s : Stands front 0 buf at mid) where
      pub write_rest : a + b ≤ length buf → length mid ≡ length buf → at + length rest ≤ length mid
      write_rest h n = omega (arith, s.end)

      pub write_done : a + b ≤ length buf → (place : ℕ) (out : List ℕ) → Stands rest at mid place out →
          Gives (storing (save_of st time) buf) (Ok (a + b)) out
      write_done h place out t =
          let f : ltb (length buf) (length (save_of st time))
          ≡ false = le-ltb (length buf) (length (save_of st time)) (omega (arith, size)) in
          let w : out ≡ sets buf 0 (save_of st time) =
          t.left
          ∙ rw (s.left, s.end) (sym (sets_append buf 0 front rest))
          ∙ ap (sets buf 0) (sym whole) in
          (rw (f, size), rw f w)

pub few_fit : {n a b : ℕ} → n ≤ slot_count → a ≡ b → b ≡ slot_count → n ≤ a
few_fit h e f = omega arith

pub retain_small : (st : State) → valid st ≡ true → retain_seconds st ≤ 86400
unfolding code_in
retain_small st v = let f = valid_facts st v in (general st.codes f.params).retain_most

-- ---- the keys in the front of an array, sorted there
pub sorted_front :
    (st : State) (time n : ℕ) (keys k : List ℕ) → n ≤ length keys → take n keys ≡ keys_of st time → length k ≡ length (take n keys) → k
    ≡ sorted (take n keys) → take n (k ++ drop n keys) ≡ sorted (keys_of st time)
sorted_front st time n keys k h e l s =
    take_at k (drop n keys) n (l ∙ length-take-le n keys h) ∙ s ∙ ap sorted e

-- ---- the ends of `save`
module _ (st : State) (time : ℕ) (buf : List ℕ) where
  pub save_not : valid st ≡ false → Gives (saving_of st time buf) (Err NotRouter) buf
  unfolding saving_of
  save_not v = (rw v, rw v)

  module _ (v : valid st ≡ true) where
    pub save_out : max_time < time → Gives (saving_of st time buf) (Err OutOfRange) buf
    unfolding saving_of
    save_out h = let t = lt-ltb max_time time h in (rw (v, t), rw (v, t))

    module _ (h : time ≤ max_time) where
      pub save_early : time < st.clock → Gives (saving_of st time buf) (Err Early) buf
      unfolding saving_of
      save_early l = let t = le-ltb max_time time h in let u = lt-ltb time st.clock l in (rw (v, t, u), rw (v, t, u))

      pub save_done : st.clock ≤ time → (r : Result ℕ SaveError) (out : List ℕ) → Gives (storing (save_of st time) buf) r out →
          Gives (saving_of st time buf) r out
      unfolding saving_of
      save_done l r out g = let t = le-ltb max_time time h in let u = le-ltb time st.clock l in (rw (v, t, u) g.0, rw (v, t, u) g.1)
