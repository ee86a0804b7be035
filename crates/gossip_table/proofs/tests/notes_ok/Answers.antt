use Rattle.index.proofs.Flags.{yes, no}
use Rattle.index.proofs.Kit.{sym, arith}
use Rattle.index.proofs.Index.{every_none, every_more, every_out, every_done}
use Rattle.records.specs.Records.{slot_count}
use Rattle.gossip_table.proofs.NoteParts.{notes_size}
use Rattle.gossip_table.proofs.TestLaws.{quiet_passes}
use Rattle.gossip_table.proofs.tests.notes_ok.Goals as goal

pub is_quiet-requires : goal.is_quiet-requires
is_quiet-requires c = notes_size c.args.gossip.now c.requires.sizes

pub returns-then-is_quiet : goal.returns-then-is_quiet
returns-then-is_quiet c = quiet_passes c.args.gossip.now _ (c.is_quiet.ensures c.if-is_quiet.true)

pub loop-slot-init : goal.loop-slot-init
loop-slot-init c = (omega arith, every_none _)

pub note_ok-requires : goal.note_ok-requires
note_ok-requires c =
    let p = c.requires in
    record {
      size = p.size;
      sizes = p.sizes;
      slot = c.loop-slot-test.true;
      puts = c.load_limit-limit.ensures;
      answers = c.load_ihave_bound-ihaves.ensures;
    }

pub returns-then-not-note_ok : goal.returns-then-not-note_ok
returns-then-not-note_ok c =
    let t = c.loop-slot-test.true in
    every_out _ slot_count c.loop-slot.slot (omega (arith, t)) (no c.note_ok.ensures c.if-not-note_ok.true)

pub loop-slot-preserved : goal.loop-slot-preserved
loop-slot-preserved c =
    let t = c.loop-slot-test.true in
    (omega (arith, t), every_more _ _ c.loop-slot.invariant.1 (yes c.note_ok.ensures c.if-not-note_ok.false))

pub returns : goal.returns
returns c =
    let l = c.loop-slot in
    sym (every_done _ slot_count l.slot l.invariant.0 (omega arith) l.invariant.1)
