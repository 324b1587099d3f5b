-- What holds of the basis as the code keeps it.
use Rattle.std.specs.Prelude.{◌≡◌, ℕ, List, Option, Some, None, map, All}
use Rattle.alg_pairs.specs.declared.lead.Lead.{Lead}
use Rattle.alg_groebner.specs.Leads.{lead}
use Rattle.alg_groebner.specs.Work.{member_at}
use Rattle.alg_groebner.specs.Workable.{IsSomeMember}
use Rattle.alg_groebner.specs.declared.member.Member.{Member}

-- a line with its lead
abbrev pub lead_of : Member → Lead
lead_of b = record { line = b.number; lead = lead b.poly }

-- the line with a number, if there is one
abbrev pub looked_up : List Member → Option ℕ → Option Member
looked_up bs None = None
looked_up bs (Some k) = member_at bs k

-- the index has exactly the leads of the lines, and no line is zero
pub record IsBasis (members : List Member) (leads : List Lead) : Type 0 where
  pub same : leads ≡ map lead_of members
  pub some : All IsSomeMember members
