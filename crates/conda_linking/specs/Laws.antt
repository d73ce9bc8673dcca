-- What a revision leads to. This project's own.
use Rattle.std.specs.Prelude.{◌≡◌, List, [], ◌∷◌, ◌++◌, Option}
use Rattle.conda_base.specs.Texts.{Ascending}
use Rattle.conda_meta.specs.Folds.{IsFold}
use Rattle.conda_meta.specs.Reading.{dists_of}
use Rattle.conda_meta.specs.declared.folding.Folded.{Folded}
use Rattle.conda_meta.specs.declared.revision.Revision.{Revision}
use Rattle.conda_linking.specs.Linking.{AreCarried, IsRevisionTo}

-- Where revisions leave what is linked now, and the target, by dist, has what isn't to link as it is linked now, those revisions and
-- after them the one to the target leave the target.
abbrev pub FoldsToTarget : Type 0
FoldsToTarget = (revisions : List Revision) (kept : Option Folded) (now target : Folded) (revision : Revision)
    → IsFold revisions now → Ascending (dists_of target.linked) → AreCarried kept now.linked target.linked
    → IsRevisionTo kept now target revision
    → IsFold (revisions ++ revision ∷ []) target

-- Two revisions from what is linked now to a target are the same.
abbrev pub HasOneRevision : Type 0
HasOneRevision = (kept : Option Folded) (now target : Folded) (a b : Revision)
    → IsRevisionTo kept now target a → IsRevisionTo kept now target b
    → a ≡ b
