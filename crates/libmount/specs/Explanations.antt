-- What a probe tells of the paths of an operation.
use Rattle.std.specs.Prelude.{ℕ, zero, suc, List, [], ◌∷◌, ◌++◌, length, map, Option, Some, None}
use Rattle.std.specs.Prelude.{◌==◌, if◌then◌else◌, codes}
use Rattle.std.specs.List.{join_by}
use Rattle.port_base.specs.Paths.{path_starts_with}
use Rattle.port_base.specs.Quoting.{quoted}
use Rattle.libmount.specs.Builders.{Bind, FlagChange, InMemory, Layers, Relocation, Upper}
use Rattle.libmount.specs.Probes.{Facts, exists_text, user_text}

-- parts with a comma and a space between them
abbrev pub listed : List (List ℕ) → List ℕ
listed parts = join_by (λ part. part) (codes ", ") parts

-- whether there is something at a path, behind its name
abbrev pub of_path : List ℕ → List ℕ → Facts → List ℕ
of_path name path facts = name ++ (codes ": " ++ exists_text (facts.exists path))

abbrev pub bind_parts : Bind → Facts → List (List ℕ)
bind_parts bind facts = of_path (codes "source") bind.source facts ∷ of_path (codes "target")
    bind.target facts ∷ user_text facts.user ∷ []

abbrev pub relocation_parts : Relocation → Facts → List (List ℕ)
relocation_parts move facts = of_path (codes "source") move.source facts ∷ of_path (codes "target")
    move.target facts ∷ []

abbrev pub tmpfs_parts : InMemory → Facts → List (List ℕ)
tmpfs_parts tmpfs facts = of_path (codes "target") tmpfs.target facts ∷ user_text facts.user ∷ []

abbrev pub remount_parts : FlagChange → Facts → List (List ℕ)
remount_parts change facts = of_path (codes "path") change.path facts ∷ user_text facts.user ∷ []

-- ---- overlays

-- each directory, by its quoted path
abbrev pub dir_part : Facts → List ℕ → List ℕ
dir_part facts dir = of_path (quoted dir) dir facts

-- whether two devices are one, where both are known
abbrev pub device_parts : Option ℕ → Option ℕ → List (List ℕ)
device_parts (Some a) (Some b) = (if a == b then codes "same-fs" else codes "different-fs") ∷ []
device_parts _ _ = []

-- which of the two directories is within the other
abbrev pub prefix_parts : Upper → List (List ℕ)
prefix_parts upper =
    if path_starts_with upper.workdir upper.upperdir then codes "upperdir-prefix-of-workdir" ∷ []
    else
    if path_starts_with upper.upperdir upper.workdir then codes "workdir-prefix-of-upperdir" ∷ []
    else []

abbrev pub upper_parts : Option Upper → List ℕ → Facts → List (List ℕ)
upper_parts None target facts = []
upper_parts (Some upper) target facts =
    of_path (codes "upperdir") upper.upperdir facts ∷ of_path (codes "workdir") upper.workdir facts
    ∷ (device_parts (facts.device upper.upperdir) (facts.device upper.workdir)
    ++ (prefix_parts upper ++ of_path (codes "target") target facts ∷ []))

-- too few directories
abbrev pub count_parts : ℕ → Option Upper → List (List ℕ)
count_parts zero upper = codes "no-lowerdirs" ∷ []
count_parts (suc n) (Some upper) = []
count_parts (suc n) None = if n == 0 then codes "single-lowerdir" ∷ [] else []

abbrev pub overlay_parts : Layers → Facts → List (List ℕ)
overlay_parts overlay facts =
    map (dir_part facts) overlay.lowerdirs
    ++ (upper_parts overlay.upper overlay.target facts
    ++ (count_parts (length overlay.lowerdirs) overlay.upper ++ user_text facts.user ∷ []))

-- a part with the comma and the space behind it
abbrev pub ended : List ℕ → List ℕ
ended part = part ++ codes ", "

-- ---- operations

unfoldable pub bind_explanation : Bind → Facts → List ℕ
bind_explanation bind facts = listed (bind_parts bind facts)

unfoldable pub relocation_explanation : Relocation → Facts → List ℕ
relocation_explanation move facts = listed (relocation_parts move facts)

unfoldable pub tmpfs_explanation : InMemory → Facts → List ℕ
tmpfs_explanation tmpfs facts = listed (tmpfs_parts tmpfs facts)

unfoldable pub remount_explanation : FlagChange → Facts → List ℕ
remount_explanation change facts = listed (remount_parts change facts)

unfoldable pub overlay_explanation : Layers → Facts → List ℕ
overlay_explanation overlay facts = listed (overlay_parts overlay facts)
