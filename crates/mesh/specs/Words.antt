-- The code's sets as words, and the records of the rules that they stand for.
use Rattle.std.specs.Prelude.{ℕ, List}
use Rattle.words.specs.Words.{bits_of}
use Rattle.mesh.specs.declared.Seen.{Seen}
use Rattle.mesh.specs.declared.Stages.{Stages}
use Rattle.mesh.specs.declared.Moves.{Moves}
use Rattle.mesh.specs.Maintenance.{View, Meshes, Changes}

abbrev pub view_of : Seen → List ℕ → List ℕ → View
view_of v scores permutation =
    record {
      members = bits_of v.members;
      candidates = bits_of v.candidates;
      outbound = bits_of v.outbound;
      scores = scores;
      permutation = permutation;
      ask = v.ask;
    }

abbrev pub meshes_of : Stages → Meshes
meshes_of m =
    record {
      first = bits_of m.first;
      second = bits_of m.second;
      third = bits_of m.third;
      fourth = bits_of m.fourth;
      fifth = bits_of m.fifth;
    }

abbrev pub changes_in : Moves → Changes
changes_in c =
    record {
      first = bits_of c.first;
      second = bits_of c.second;
      third = bits_of c.third;
      fourth = bits_of c.fourth;
      fifth = bits_of c.fifth;
    }
