-- A file that a person names, and a new one in its folder, as the kernel and the device hold them.
use Rattle.std.specs.Prelude.{◌≡◌, ℕ, zero, suc, List, [], ◌∷◌, ◌++◌, take, Option, Some, None, IsSome, option_map, Bool, true}
use Rattle.conf_system.specs.Machine.{Version, empty_version, version_bytes, with_pending, synced, failed_sync}
use Rattle.file_calls.specs.declared.calls.Rights.{Rights}

-- one file of the system (an inode): its bytes, and who may use it
pub record File : Type 0 where
  pub version : Version
  pub rights : Rights

-- what a name leads to: nothing, the file that was there, or the new one
pub data Leads : Type 0 where
  Nothing : Leads
  Old : Leads
  New : Leads

-- what the name that the person gave leads to, and the one of the new file beside it
pub record Names : Type 0 where
  pub given : Leads
  pub beside : Leads

-- The file that was there, if a name leads to it, and the new one, once it is made; the names, at each stage since the
-- last sync of the folder but for the last one, oldest first, and now. Then what calls failed to do: whether one that
-- gives the new file an owner or a group failed, and whether the new file may be left, since a call failed that made it
-- or was to remove it.
pub record Machine : Type 0 where
  pub old : File
  pub new : Option File
  pub earlier : List Names
  pub now : Names
  pub is_refused : Bool
  pub is_left : Bool

-- the stages that the names may be at
abbrev pub stages : Machine → List Names
stages m = m.earlier ++ m.now ∷ []

-- the file that a name leads to
abbrev pub file_at : Machine → Leads → Option File
file_at m Nothing = None
file_at m Old = Some m.old
file_at m New = m.new

-- what a file reads as
abbrev pub file_bytes : File → List ℕ
file_bytes file = version_bytes file.version

-- what the name reads as
abbrev pub given_bytes : Machine → Option (List ℕ)
given_bytes m = option_map file_bytes (file_at m m.now.given)

-- who may use the file that a name leads to
abbrev pub rights_at : Machine → Leads → Option Rights
rights_at m leads = option_map (λ file. file.rights) (file_at m leads)

-- the name leads to this
abbrev pub IsNamed : Leads → Machine → Type 0
IsNamed leads m = m.now.given ≡ leads

-- the calls that change something
pub data Call : Type 0 where
  CreateBeside : (rights : Rights) → Call
  CreateGiven : (rights : Rights) → Call
  Write : (bytes : List ℕ) → Call
  GiveOwner : (owner group : ℕ) → Call
  GiveGroup : (group : ℕ) → Call
  SetMode : (mode : ℕ) → Call
  SyncNew : Call
  Rename : Call
  UnlinkBeside : Call
  UnlinkGiven : Call
  SyncFolder : Call

-- what a caller ensures before a call
abbrev pub MayBeCalled : Call → Machine → Type 0
MayBeCalled (CreateBeside rights) m = m.new ≡ None
MayBeCalled (CreateGiven rights) m = m.new ≡ None
MayBeCalled Rename m = (m.now.given ≡ Old) × (m.now.beside ≡ New)
MayBeCalled UnlinkBeside m = Unit {0}
MayBeCalled UnlinkGiven m = m.now.given ≡ New
MayBeCalled SyncFolder m = Unit {0}
MayBeCalled call m = IsSome m.new

-- an empty file
abbrev pub empty_file : Rights → File
empty_file rights = record { version = empty_version; rights = rights }

-- the names are these from now on
abbrev pub with_names : Machine → Leads → Leads → Machine
with_names m given beside = record m { earlier = stages m; now = record { given = given; beside = beside } }

-- the new file is changed
abbrev pub with_new : Machine → (File → File) → Machine
with_new m change = record m { new = option_map change m.new }

abbrev pub with_version : (Version → Version) → File → File
with_version change file = record file { version = change file.version }

abbrev pub with_rights : (Rights → Rights) → File → File
with_rights change file = record file { rights = change file.rights }

-- after a call that returned Ok
abbrev pub after : Call → Machine → Machine
after (CreateBeside rights) m = record (with_names m m.now.given New) { new = Some (empty_file rights) }
after (CreateGiven rights) m = record (with_names m New m.now.beside) { new = Some (empty_file rights) }
after (Write bytes) m = with_new m (with_version (with_pending bytes))
after (GiveOwner owner group) m = with_new m (with_rights (λ rights. record rights { owner = owner; group = group }))
after (GiveGroup group) m = with_new m (with_rights (λ rights. record rights { group = group }))
after (SetMode mode) m = with_new m (with_rights (λ rights. record rights { mode = mode }))
after SyncNew m = with_new m (with_version synced)
after Rename m = with_names m m.now.beside Nothing
after UnlinkBeside m = with_names m m.now.given Nothing
after UnlinkGiven m = with_names m Nothing m.now.beside
after SyncFolder m = record m { earlier = [] }

-- a call failed that gives the new file an owner or a group
abbrev pub refused : Machine → Machine
refused m = record m { is_refused = true }

-- the new file may be left
abbrev pub left : Machine → Machine
left m = record m { is_left = true }

-- After a call that failed. Of a write a prefix may be there. Of another call at 0 nothing is done, and from 1 on all; but
-- of a sync nothing more is sure.
abbrev pub failing : ℕ → Call → Machine → Machine
failing k (Write bytes) m = after (Write (take k bytes)) m
failing k SyncNew m = with_new m (with_version failed_sync)
failing k SyncFolder m = m
failing zero (GiveOwner owner group) m = refused m
failing zero (GiveGroup group) m = refused m
failing zero UnlinkBeside m = left m
failing zero UnlinkGiven m = left m
failing zero call m = m
failing (suc k) (CreateBeside rights) m = left (after (CreateBeside rights) m)
failing (suc k) (CreateGiven rights) m = left (after (CreateGiven rights) m)
failing (suc k) (GiveOwner owner group) m = refused (after (GiveOwner owner group) m)
failing (suc k) (GiveGroup group) m = refused (after (GiveGroup group) m)
failing (suc k) call m = after call m
