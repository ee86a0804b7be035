-- Laws of a fresh router: its codes, the ends of `fresh`, and that it is a router's.
-- Assumes nothing.
use Rattle.std.proofs.Common.{Option, Some, None, Ok, Err}
use Rattle.lookup.specs.declared.FreshError.TheVariants.{Broken}
use Rattle.index.proofs.Kit.{ℕ, ◌<◌, ◌≤◌, ◌≡◌, refl, ap, ◌∙◌, true, arith, by_order}
use mathlib.Core.List.{List, map}
use lib.ListN.{length, get_or, replicate, length-map, length-replicate, get_or-replicate, get_or-eq_default}
use Rattle.varint.specs.Codes.{code_of}
use Rattle.params.specs.declared.Params.{Params}
use Rattle.params.specs.Editions.{edition_number}
use Rattle.params.specs.Check.{first_broken}
use Rattle.params.proofs.CheckLaws.{accepted_back, codes_pass}
use Rattle.records.specs.Records.{State, place, no_peer, no_topic, joined_in, peer_in, topic_in, slot_count, topic_count, param_count}
use Rattle.layout.specs.View.{place_count, zero_state, set_codes, set_setup, state_of, CodesFit}
use Rattle.lookup.specs.Fresh.{setup_of, fresh_state, Makes}
use Rattle.validity.specs.Valid.{valid}
use Rattle.validity.proofs.SignLaws.{codes_fit}
use Rattle.validity.proofs.ValidLaws.{Facts, no_peer_lem, no_topic_lem, facts_valid}

-- a cleared table with the codes and the edition of the parameters is a fresh router's
fresh_codes : (p : Params) → set_setup (set_codes zero_state (map code_of p.numbers)) (setup_of p) ≡ fresh_state p
unfolding set_codes set_setup zero_state fresh_state
fresh_codes p = refl

pub filled :
    (p : Params) (codes : List ℕ) (edition : ℕ) (st u st' : State) → st' ≡ set_setup u (record { edition = edition }) →
    u ≡ set_codes st codes → st ≡ zero_state → codes ≡ map code_of p.numbers → edition ≡ edition_number p.edition → st' ≡ fresh_state p
filled p codes edition st u st' a b c d e =
    a
    ∙ ap (λ (v : State). set_setup v (record { edition = edition })) (b ∙ ap (λ (v : State). set_codes v codes) c ∙ ap (set_codes zero_state) d)
    ∙ ap (λ (n : ℕ). set_setup (set_codes zero_state (map code_of p.numbers)) (record { edition = n })) e
    ∙ fresh_codes p

-- codes of parameters that pass the check can stand as magnitudes
pub fresh_fit :
    (p : Params) (codes : List ℕ) →
    codes ≡ map code_of p.numbers →
    length p.numbers ≡ param_count →
    first_broken p ≡ None →
    CodesFit codes
fresh_fit p codes q l e =
    let z : length (map code_of p.numbers) ≡ param_count = length-map p.numbers code_of ∙ l in
    let w = (codes_pass (edition_number p.edition) (map code_of p.numbers) (accepted_back p l e)).0 in
    rw q (codes_fit (map code_of p.numbers) z w)

-- ---- the ends of `fresh`
module _ (p : Params) (table : List ℕ) (f : Option ℕ) (e : f ≡ first_broken p) where
  pub fresh_broken : (i : ℕ) → f ≡ Some i → Makes p (Err (Broken i)) table table
  fresh_broken i t = record { answer = rw (← e, t); state = rw (← e, t); kept = λ j q. refl }

  pub fresh_made : (table' : List ℕ) → f ≡ None → state_of table' ≡ fresh_state p → Makes p (Ok tt) table table'
  fresh_made table' t s =
      record { answer = rw (← e, t); state = rw (← e, t) s; kept = λ j q. let z : ◌≡◌ {A = ℕ} 0 1 = cc in absurd (omega arith) }

-- ---- a fresh router is a router's
module _ (p : Params) where
  fresh_joined : (t : ℕ) → joined_in (fresh_state p) t ≡ 0
  unfolding joined_in fresh_state
  fresh_joined t =
      by_order (get_or (replicate 8 0) t 0 ≡ 0) t 8 (λ (h : t < topic_count). get_or-replicate 8 t 0 0 h) (λ (h : 8 ≤ t).
      get_or-eq_default (replicate 8 0) 0 {n = t} (rw length-replicate h))

  fresh_peer : (s : ℕ) → s < slot_count → peer_in (fresh_state p) s ≡ no_peer
  unfolding peer_in fresh_state
  fresh_peer s h = get_or-replicate slot_count s no_peer no_peer h

  fresh_topic : (s t : ℕ) → s < slot_count → t < topic_count → topic_in (fresh_state p) (place s t) ≡ no_topic
  unfolding topic_in fresh_state
  fresh_topic s t h l = get_or-replicate place_count (place s t) no_topic no_topic (omega arith)

  fresh_facts : length p.numbers ≡ param_count → first_broken p ≡ None → Facts (fresh_state p)
  unfolding fresh_state
  fresh_facts l e =
      record {
        params = record { passes = accepted_back p l e };
        clock = omega arith;
        joined = λ t h. rw (fresh_joined t) (omega arith);
        peer = λ s h. rw (fresh_peer s h) (no_peer_lem 0);
        topic = λ s t h k. rw (fresh_topic s t h k) (no_topic_lem _ _ _ _ _ _);
        ids = λ s k h b q. rw (fresh_peer s h);
      }

  -- the fresh state of parameters that pass the check is a router's
  pub fresh_valid : length p.numbers ≡ param_count → first_broken p ≡ None → valid (fresh_state p) ≡ true
  fresh_valid l e = facts_valid (fresh_state p) (fresh_facts l e)
