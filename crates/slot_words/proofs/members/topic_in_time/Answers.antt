use native.Mathlib.Omega.{arith}
use Rattle.slot_words.proofs.FlagLaws.{members_in, times_told}
use Rattle.slot_words.proofs.members.topic_in_time.Goals as goal

pub word_in_time-requires : goal.word_in_time-requires
word_in_time-requires c = let s = c.requires in
    (s.0, (s.1, (omega arith, members_in _ _ _ c.load_members-m.ensures.1 0 (omega arith))))

pub word_in_time-requires-2 : goal.word_in_time-requires-2
word_in_time-requires-2 c = let s = c.requires in
    (s.0, (s.1, (omega arith, members_in _ _ _ c.load_members-m.ensures.1 1 (omega arith))))

pub word_in_time-requires-3 : goal.word_in_time-requires-3
word_in_time-requires-3 c = let s = c.requires in
    (s.0, (s.1, (omega arith, members_in _ _ _ c.load_members-m.ensures.1 2 (omega arith))))

pub word_in_time-requires-4 : goal.word_in_time-requires-4
word_in_time-requires-4 c =
    let s = c.requires in (s.0, (s.1, (omega arith, members_in _ _ _ c.load_members-m.ensures.1 3 (omega arith))))

pub returns : goal.returns
returns c = times_told _ _ _ c.load_members-m.ensures.1 _ _ _ _ _
    c.word_in_time.ensures c.word_in_time-2.ensures
    c.word_in_time-3.ensures c.word_in_time-4.ensures
