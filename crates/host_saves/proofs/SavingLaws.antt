-- From what save and load promise to what a host gets: the answer as one number; and over a power cycle.
-- Assumes nothing.
use Rattle.std.proofs.Common.{Result, Ok, Err}
use Rattle.saves.specs.declared.SaveError.{SaveError}
use Rattle.saves.specs.declared.SaveError.TheVariants.{Early, NotRouter, OutOfRange, Short}
use Rattle.saves.specs.declared.LoadError.{LoadError}
use Rattle.std.proofs.Common.{Option, Some, None}
use Prim.Native.Nat.{ℕ, ◌+◌, ◌≤◌}
use native.Mathlib.Omega.{arith}
use mathlib.Core.Path.{◌≡◌, refl, sym, ap, ◌∙◌}
use mathlib.Core.Bool.{true}
use mathlib.Core.List.{List}
use borrow.Author.Tests.{ltb-false}
use lib.Dec.{ltb}
use lib.IntN.{ℤ}
use lib.ListN.{length, take, drop}
use lib.Seq.{sets, sets-eq, take_at}
use Rattle.index.proofs.Flags.{by_test}
use Rattle.answers.specs.Answers.{packed}
use Rattle.layout.specs.View.{state_of}
use Rattle.params.specs.declared.Edition.{Edition}
use Rattle.params.specs.declared.Params.{Params}
use Rattle.params.specs.Editions.{edition_of, sheet}
use Rattle.records.specs.Records.{State}
use Rattle.validity.specs.Valid.{max_time, valid}
use Rattle.saves.specs.Save.{order, body_of, save_of, Saving, kept, storing, saving_of, saved_number, saved_value}
use Rattle.saves.specs.Load.{Loading, loaded, loaded_state, load_of, answer_of, left_by, refuses, Loads, loaded_number, loaded_value}
use Rattle.saves.proofs.Promised.{every_save_loads, remember}
use Rattle.host_saves.specs.Saving.{HostsSave, load_code, HostsLoad, CyclesRemember}
use Rattle.host_saves.proofs.SaveSize.{save_most}
use Rattle.host_saves.proofs.LoadPlaces.{load_most}

-- ---- saving: what an answer 0 tells
pub record Told (st : State) (time n : ℕ) (buf buf' : List ℕ) : Type 0 where
  pub router : valid st ≡ true
  pub late : st.clock ≤ time
  pub size : length (save_of st time) ≡ n
  pub room : n ≤ length buf
  pub bytes : buf' ≡ sets buf 0 (save_of st time)

module _ (st : State) (time : ℕ) (buf buf' : List ℕ) (n : ℕ) where
  abbrev Says : Saving → Type 0
  Says w = (w.answer ≡ Ok n) × (buf' ≡ w.bytes)

  told_stored : valid st ≡ true → st.clock ≤ time → Says (storing (save_of st time) buf) → Told st time n buf buf'
  told_stored v late e =
      by_test (Told st time n buf buf') (ltb (length buf) (length (save_of st time)))
      (λ t. let q : Says (kept (Err Short) buf) = rw t at e in let z : ◌≡◌ {A = ℕ} 13 0 = ap saved_number q.0 in absurd (omega arith))
      (λ t.
      let q : Says (record { answer = Ok (length (save_of st time)); bytes = sets buf 0 (save_of st time) }) = rw t at e in
      let z : length (save_of st time) ≡ n = ap saved_value q.0 in
      record {
        router = v;
        late = late;
        size = z;
        room = omega (arith, ltb-false (length buf) (length (save_of st time)) t);
        bytes = q.1;
      })

  pub told : Says (saving_of st time buf) → Told st time n buf buf'
  unfolding saving_of
  told e =
      by_test (Told st time n buf buf') (valid st)
      (λ v. by_test (Told st time n buf buf') (ltb max_time time)
      (λ t.
      let q : Says (kept (Err OutOfRange) buf) = rw (v, t) at e in
      let z : ◌≡◌ {A = ℕ} 2 0 = ap saved_number q.0 in
      absurd (omega arith))
      (λ t. by_test (Told st time n buf buf') (ltb time st.clock)
      (λ u.
      let q : Says (kept (Err Early) buf) = rw (v, t, u) at e in
      let z : ◌≡◌ {A = ℕ} 1 0 = ap saved_number q.0 in
      absurd (omega arith))
      (λ u.
      let q : Says (storing (save_of st time) buf) = rw (v, t, u) at e in
      told_stored v (ltb-false time st.clock u) q)))
      (λ v.
      let q : Says (kept (Err NotRouter) buf) = rw v at e in
      let z : ◌≡◌ {A = ℕ} 12 0 = ap saved_number q.0 in
      absurd (omega arith))

module _
    (table : List ℕ)
    (time : ℕ)
    (buf buf' : List ℕ)
    (w v : Result ℕ SaveError)
    (g : (w ≡ (saving_of (state_of table) time buf).answer) × (buf' ≡ (saving_of (state_of table) time buf).bytes))
    (t : w ≡ v)
  where
    saved_is : v ≡ (saving_of (state_of table) time buf).answer
    saved_is = sym t ∙ g.0

    pub save_fits : (n : ℕ) → v ≡ Ok n → n ≤ 4294967295
    save_fits n e =
        let k = told (state_of table) time buf buf' n (sym saved_is ∙ e, g.1) in
        omega (arith, k.size, save_most (state_of table) k.router time k.late)

    pub hosts_save : (r : ℕ) → r ≡ packed (saved_number v) (saved_value v) → HostsSave table time r buf buf'
    hosts_save r e =
        record { answer = e ∙ ap (λ (x : Result ℕ SaveError). packed (saved_number x) (saved_value x)) saved_is; bytes = g.1 }

-- ---- loading
module _
    (p : Params)
    (clock : ℕ)
    (s table table' : List ℕ)
    (w v : Result (Unit {0}) LoadError)
    (k : Loads (load_of true p clock s) w table table')
    (t : w ≡ v)
  where
    loaded_is : v ≡ answer_of (load_of true p clock s)
    loaded_is = sym t ∙ k.answer

    pub load_fits : loaded_value v ≤ 4294967295
    load_fits = omega (arith, ap loaded_value loaded_is, load_most p clock s)

    pub hosts_load : (r : ℕ) → r ≡ packed (loaded_number v) (loaded_value v) →
        HostsLoad (Some p.edition) p.numbers clock s r table table'
    hosts_load r e =
        record {
          answer = e ∙ ap (λ (x : Result (Unit {0}) LoadError). packed (loaded_number x) (loaded_value x)) loaded_is;
          state = k.state;
          kept = λ f. k.kept (ap refuses k.answer ∙ f);
        }

-- the edition that a number told, or none
module _ (n : ℕ) (m : Option Edition) (e : m ≡ edition_of n) (xs : List ℤ) (clock : ℕ) (s : List ℕ) where
  pub load_known : (d : Edition) (r : ℕ) (table table' : List ℕ) → m ≡ Some d → HostsLoad (Some d) xs clock s r table table' →
      HostsLoad (edition_of n) xs clock s r table table'
  load_known d r table table' t h = rw (← e, t) h

  pub load_unknown : (r : ℕ) (table : List ℕ) → m ≡ None → r ≡ packed 2 0 → HostsLoad (edition_of n) xs clock s r table table
  load_unknown r table t q = rw (← e, t) (record { answer = q; state = refl; kept = λ f. refl })

-- ---- over a power cycle
-- an answer 0 is told of a save that was done
done_by : (a : Result ℕ SaveError) (n : ℕ) → packed 0 n ≡ packed (saved_number a) (saved_value a) → a ≡ Ok n
done_by (Ok m) n e = let q : m ≡ n = omega arith in ap Ok q
done_by (Err Early) n e = absurd (omega arith)
done_by (Err OutOfRange) n e = absurd (omega arith)
done_by (Err NotRouter) n e = absurd (omega arith)
done_by (Err Short) n e = absurd (omega arith)

front_back : (n : ℕ) (save buf : List ℕ) → length save ≡ n → n ≤ length buf → take n (sets buf 0 save) ≡ save
front_back n save buf e h =
    ap (take n) (sets-eq save buf 0 (omega arith)) ∙ take_at save (drop (0 + length save) buf) n e

pub cycles_remember : CyclesRemember
cycles_remember e xs table time n buf buf' clock r fresh fresh' sheet' hs early hl =
    let st = state_of table in
    let a = done_by (saving_of st time buf).answer n hs.answer in
    let k = told st time buf buf' n (a, hs.bytes) in
    let b : take n buf' ≡ save_of st time = ap (take n) k.bytes ∙ front_back n (save_of st time) buf k.size k.room in
    let o : load_of true (sheet e xs) clock (take n buf')
    ≡ loaded (loaded_state (sheet e xs) clock (length (order st time)) (body_of st time)) =
    ap (load_of true (sheet e xs) clock) b ∙ every_save_loads st (sheet e xs) time clock k.router sheet' k.late early in
    let u : state_of fresh' ≡ loaded_state (sheet e xs) clock (length (order st time)) (body_of st time) =
    hl.state ∙ ap (λ (x : Loading). left_by x (state_of fresh)) o in (
      hl.answer ∙ ap load_code o,
      remember st (sheet e xs) time clock (state_of fresh') k.router sheet' k.late early
          (ap (load_of true (sheet e xs) clock) (sym b) ∙ o ∙ ap loaded (sym u)),
    )
