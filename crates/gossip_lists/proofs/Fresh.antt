-- What a list starts from, with accepted set-up numbers, is a router's, and so is what every list of calls leaves.
-- Assumes nothing.
use mathlib.Core.Path.{◌≡◌, ap, ◌∙◌}
use mathlib.Core.Bool.{true, false}
use mathlib.Core.List.{[], ◌∷◌}
use Rattle.records.specs.Records.{State, peer_in}
use Rattle.effects.specs.Effects.{is_joined}
use Rattle.call_lists.proofs.Standing.{stands_start}
use Rattle.gossip.specs.Notes.{Setup, stored, fresh_gossip}
use Rattle.gossip.specs.Valid.{setup_ok, note_ok, store_ok, replies_ok, valid_all}
use Rattle.gossip.proofs.ListLaws.{and_by}
use Rattle.gossip.proofs.NoteLaws.{note_fresh, store_fresh, setup_fresh, replies_fresh, sized_fresh}
use Rattle.gossip.proofs.NoteOk.{note_none, store_none}
use Rattle.gossip.proofs.RepliesOk.{replies_none}
use Rattle.gossip.proofs.Fine.{Fine, of_fine}
use Rattle.gossip_lists.specs.Lists.{after_all}
use Rattle.gossip_lists.specs.Kept.{WholeAfter}
use Rattle.gossip_lists.proofs.Keeps.{keeps_all}

fine_fresh : (st : State) (p : Setup) → setup_ok p ≡ true → Fine st (fresh_gossip p)
fine_fresh st p fine =
    let g = fresh_gossip p in
    record {
      setup = ap setup_ok (setup_fresh p) ∙ fine;
      note = λ s l. ap (note_ok g.setup (peer_in st s)) (note_fresh p s) ∙ note_none g.setup (peer_in st s);
      store = λ t l. ap (store_ok (is_joined st t)) (store_fresh p t) ∙ store_none (is_joined st t);
      replies =
          ap (replies_ok st g.setup.replies (stored g)) (replies_fresh p) ∙ replies_none st g.setup.replies (stored g);
    }

pub whole_after : WholeAfter
unfolding after_all valid_all
whole_after start [] ok =
    let s = stands_start start.router ok.router (λ i. false) in
    let st = start.router.state in
    record {
      size = s.size;
      sizes = sized_fresh start.setup;
      router = and_by s.router (of_fine st (fresh_gossip start.setup) (fine_fresh st start.setup ok.setup));
    }
whole_after start (c ∷ before) ok = keeps_all (after_all start before) c.call c.room (whole_after start before ok)
