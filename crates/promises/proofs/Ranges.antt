-- The ranges of a call's arguments: each test of `in_range` is a comparison, and says what the comparison says.
-- Assumes nothing.
use Prim.{tt}
use Prim.Native.Nat.{ℕ, zero, suc, ◌-◌, ◌≤◌, ◌<◌}
use native.Mathlib.Omega.{arith}
use mathlib.Core.Path.{◌≡◌, refl}
use mathlib.Core.Logic.{◌↔◌}
use mathlib.Core.Bool.{Bool, true, ◌&&◌}
use mathlib.Core.List.{List}
use lib.Dec.{leb}
use lib.ListN.{length, get_or}
use lib.IntN.{ℤ, pos, negsuc, nat_abs}
use borrow.Author.Tests.{leb-true, le-leb, lt-ltb, le-ltb, ltb-false, ne_eqb}
use Rattle.index.proofs.Index.{both, every_by}
use Rattle.validity.specs.Valid.{max_id}
use Rattle.rules.proofs.GroupLaws.{group_some, group_few, group_most, group_above}
use Rattle.rules.specs.Calls.{Call, connect, disconnect, join, leave, subscribe, unsubscribe, graft, prune, deliver, rate, heartbeat, decay}
use Rattle.rules.specs.Calls.{group_ok, groups_ok, score, time_of, id_ok, topic_ok, time_ok, arguments_ok, in_range}
use Rattle.promises.specs.Numbers.{TimeIn, IdIn, TopicIn, GroupsIn, P5In, ArgumentsIn, Ranges}

-- a test and what it says
abbrev Says : Bool → Type 0 → Type 0
Says b P = (b ≡ true) ↔ P

says_and : {P Q : Type 0} (a b : Bool) → Says a P → Says b Q → Says (a && b) (P × Q)
says_and a b f g = (λ e. let q = both a b e in (f.0 q.0, g.0 q.1), λ h. rw (f.1 h.0, g.1 h.1))

says_le : (m n : ℕ) → Says (leb m n) (m ≤ n)
says_le m n = (leb-true m n, le-leb m n)

time_says : (time : ℕ) → Says (time_ok time) (TimeIn time)
time_says time = says_le time 1099511627776

id_says : (id : ℕ) → Says (id_ok id) (IdIn id)
id_says id = says_and (leb 1 id) (leb id 4294967295) (says_le 1 id) (says_le id 4294967295)

topic_says : (t : ℕ) → Says (topic_ok t) (TopicIn t)
topic_says t = says_le t 7

-- each group says its bits, and each but the first that it is above the one before
groups_say : (groups : List ℕ) → Says (groups_ok groups) (GroupsIn groups)
unfolding groups_ok
groups_say groups = (
  λ e. record {
    some = group_some groups e;
    few = group_few groups e;
    bits = λ k h. omega (arith, group_most groups e k h);
    rising = λ k h. group_above groups e k h;
  },
  λ h. rw (le-leb 1 (length groups) h.some, le-leb (length groups) 4 h.few)
      (every_by (group_ok groups) (length groups) (λ k l. one groups h k l)),
)
  where
    one : (groups : List ℕ) → GroupsIn groups → (k : ℕ) → k < length groups → group_ok groups k ≡ true
    one groups h zero l = rw (le-leb (get_or groups zero 0) max_id (omega (arith, h.bits zero l))) refl
    one groups h (suc k) l =
        let z : suc k - 1 ≡ k = omega arith in
        rw (
          le-leb (get_or groups (suc k) 0) max_id (omega (arith, h.bits (suc k) l)),
          ne_eqb (suc k) 0 (λ q. omega arith),
          z,
          lt-ltb (get_or groups k 0) (get_or groups (suc k) 0) (h.rising k l),
        ) refl

p5_says : (p5 : ℤ) → Says (leb (nat_abs p5) 1000000000) (P5In p5)
p5_says (pos n) = (λ e. (refl, le-ltb 1000000000 n (leb-true n 1000000000 e)), λ h. le-leb n 1000000000 (ltb-false 1000000000 n h.1))
p5_says (negsuc n) = (
  λ e. (le-ltb 999999999 n (omega (arith, leb-true (suc n) 1000000000 e)), refl),
  λ h. le-leb (suc n) 1000000000 (omega (arith, ltb-false 999999999 n h.0)),
)

both_says : (id t : ℕ) → Says (id_ok id && topic_ok t) (IdIn id × TopicIn t)
both_says id t = says_and (id_ok id) (topic_ok t) (id_says id) (topic_says t)

arguments_say : (c : Call) → Says (arguments_ok c) (ArgumentsIn c)
arguments_say (connect time id groups flags name) =
    let f = says_and (id_ok id) _ (id_says id) (says_and (groups_ok groups) (leb flags 3) (groups_say groups) (says_le flags 3)) in (
      λ e. let h = f.0 e in (h.0, h.1.0, h.1.1),
      λ h. f.1 (h.0, (h.1, h.2)),
    )
arguments_say (disconnect time id) = id_says id
arguments_say (join time t) = topic_says t
arguments_say (leave time t) = topic_says t
arguments_say (subscribe time id t) = both_says id t
arguments_say (unsubscribe time id t) = both_says id t
arguments_say (graft time id t) = both_says id t
arguments_say (prune time id t seconds) = both_says id t
arguments_say (deliver time id t kind) =
    let f = says_and (id_ok id && topic_ok t) _ (both_says id t) (says_and (leb 1 kind) (leb kind 3) (says_le 1 kind) (says_le kind 3)) in (
      λ e. let h = f.0 e in (h.0.0, h.0.1, h.1),
      λ h. f.1 ((h.0, h.1), h.2),
    )
arguments_say (rate time id p5) = says_and (id_ok id) (leb (nat_abs p5) 1000000000) (id_says id) (p5_says p5)
arguments_say (heartbeat time t ask order) = says_and (topic_ok t) (leb ask 1) (topic_says t) (says_le ask 1)
arguments_say (decay time) = (λ e. tt, λ h. refl)
arguments_say (score time id) = id_says id

pub ranges : Ranges
unfolding in_range
ranges c = says_and (time_ok (time_of c)) (arguments_ok c) (time_says (time_of c)) (arguments_say c)
