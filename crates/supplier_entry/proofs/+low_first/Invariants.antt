use Rattle.supplier_entry.proofs.+low_first.Given as goal

abbrev pub decreases-low_first : goal.decreases-low_first
decreases-low_first l = l.n
