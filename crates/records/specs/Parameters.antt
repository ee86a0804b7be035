-- Places of the parameters in 01's order: the general ones, then those of a topic, counted from its first.
use Rattle.std.specs.Prelude.{ℕ}

abbrev pub d_lo_at : ℕ
d_lo_at = 0

abbrev pub d_at : ℕ
d_at = 1

abbrev pub d_hi_at : ℕ
d_hi_at = 2

abbrev pub d_out_at : ℕ
d_out_at = 3

abbrev pub d_score_at : ℕ
d_score_at = 4

abbrev pub prune_backoff_at : ℕ
prune_backoff_at = 5

abbrev pub unsubscribe_backoff_at : ℕ
unsubscribe_backoff_at = 6

abbrev pub retain_at : ℕ
retain_at = 7

abbrev pub opportunistic_threshold_at : ℕ
opportunistic_threshold_at = 8

abbrev pub graylist_threshold_at : ℕ
graylist_threshold_at = 9

abbrev pub gossip_threshold_at : ℕ
gossip_threshold_at = 10

abbrev pub publish_threshold_at : ℕ
publish_threshold_at = 11

abbrev pub topic_cap_at : ℕ
topic_cap_at = 12

abbrev pub w5_at : ℕ
w5_at = 13

abbrev pub w6_at : ℕ
w6_at = 14

abbrev pub p6_threshold_at : ℕ
p6_threshold_at = 15

abbrev pub w7_at : ℕ
w7_at = 16

abbrev pub p7_decay_at : ℕ
p7_decay_at = 17

abbrev pub decay_to_zero_at : ℕ
decay_to_zero_at = 18

abbrev pub weight_at : ℕ
weight_at = 0

abbrev pub w1_at : ℕ
w1_at = 1

abbrev pub p1_quantum_at : ℕ
p1_quantum_at = 2

abbrev pub p1_cap_at : ℕ
p1_cap_at = 3

abbrev pub w2_at : ℕ
w2_at = 4

abbrev pub p2_decay_at : ℕ
p2_decay_at = 5

abbrev pub p2_cap_at : ℕ
p2_cap_at = 6

abbrev pub w3_at : ℕ
w3_at = 7

abbrev pub p3_decay_at : ℕ
p3_decay_at = 8

abbrev pub p3_cap_at : ℕ
p3_cap_at = 9

abbrev pub p3_threshold_at : ℕ
p3_threshold_at = 10

abbrev pub p3_activation_at : ℕ
p3_activation_at = 11

abbrev pub w3b_at : ℕ
w3b_at = 12

abbrev pub p3b_decay_at : ℕ
p3b_decay_at = 13

abbrev pub w4_at : ℕ
w4_at = 14

abbrev pub p4_decay_at : ℕ
p4_decay_at = 15
