-- `gossip_calls::asking::serve`: 11, or one reply more.
use Rattle.index.proofs.Kit.{refl, false}
use Rattle.index.proofs.Flags.{not_no}
use borrow.Author.Rules.{rules}
use Rattle.gossip_gate.proofs.AdmittedLaws.{admitted_valid, admitted_fine}
use Rattle.gossip_calls.proofs.AskLaws.{unserved, place_stored, serve_not, serve_one, serve_fits}
use Rattle.gossip_calls.proofs.asking.serve.Goals as goal

pub find-requires : goal.find-requires
find-requires c = search admitted_fine

pub returns-in_default : goal.returns-in_default
returns-in_default c =
    serve_not _ _ _ _ _ _ _ false (unserved _ _ _ _ c.find.ensures c.in_default.is) refl c.ignore.ensures

pub is_served-requires : goal.is_served-requires
is_served-requires c =
    record {
      standing = search (admitted_valid, rules);
      fine = search admitted_fine;
      slot = search rules;
      kept = place_stored _ _ _ c.find.ensures c.in-Some.is;
    }

pub returns-then-not-is_served : goal.returns-then-not-is_served
returns-then-not-is_served c = search serve_not

pub reply-requires : goal.reply-requires
reply-requires c =
    serve_fits c.requires _ _ c.is_served.ensures (not_no c.if-not-is_served.false)

pub returns : goal.returns
returns c = search serve_one
