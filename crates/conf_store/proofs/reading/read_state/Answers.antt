-- What is found in the file is what the read tells of it, and a read changes nothing.
use Rattle.std.proofs.Common.{subst}
use Rattle.conf_store.proofs.{Prelude.{bytes_under, several_waited, Store}, FileLemmas.read-stays, OpenLemmas.found-means}
use Rattle.conf_store.{proofs.OpenLemmas.refused-nothing, specs.{Holes.is_several, Meaning.FileMeans, Opens.FileRecoversTo}}
use Rattle.conf_store.specs.Opens.{RefusesOpening}
use Rattle.conf_store.proofs.reading.read_state.Goals as goal

pub returns-in-Err-Device-clause-stays : goal.returns-in-Err-Device-clause-stays
returns-in-Err-Device-clause-stays g c h =
    let d = g.D.Disk in
    let new = c.read.new.self in
    read-stays d.model c.args.disk.now new (λ t image le is. g.met.D.Disk.counts_now new t image h le is)
    (λ image is. g.met.D.Disk.only_now c.args.disk.now image h is)
    (c.read.ensures.time h) (c.read.ensures.same h)

pub returns-in-Err-OutOfMemory-clause-stays : goal.returns-in-Err-OutOfMemory-clause-stays
returns-in-Err-OutOfMemory-clause-stays g c h =
    let d = g.D.Disk in
    let new = c.read.new.self in
    read-stays d.model c.args.disk.now new (λ t image le is. g.met.D.Disk.counts_now new t image h le is)
    (λ image is. g.met.D.Disk.only_now c.args.disk.now image h is)
    (c.read.ensures.time h) (c.read.ensures.same h)

pub returns-in-Ok-find_state-clause-stays : goal.returns-in-Ok-find_state-clause-stays
returns-in-Ok-find_state-clause-stays g c h =
    let d = g.D.Disk in
    let new = c.read.new.self in
    read-stays d.model c.args.disk.now new (λ t image le is. g.met.D.Disk.counts_now new t image h le is)
    (λ image is. g.met.D.Disk.only_now c.args.disk.now image h is)
    (c.read.ensures.time h) (c.read.ensures.same h)

pub returns-in-Err-clause-stays : goal.returns-in-Err-clause-stays
returns-in-Err-clause-stays g c h =
    let d = g.D.Disk in
    let new = c.read.new.self in
    read-stays d.model c.args.disk.now new (λ t image le is. g.met.D.Disk.counts_now new t image h le is)
    (λ image is. g.met.D.Disk.only_now c.args.disk.now image h is)
    (c.read.ensures.time h) (c.read.ensures.same h)

-- ---- nothing has changed

pub returns-in-Err-Device-clause-same : goal.returns-in-Err-Device-clause-same
returns-in-Err-Device-clause-same g c = c.read.ensures.same

pub returns-in-Err-OutOfMemory-clause-same : goal.returns-in-Err-OutOfMemory-clause-same
returns-in-Err-OutOfMemory-clause-same g c = c.read.ensures.same

pub returns-in-Ok-find_state-clause-same : goal.returns-in-Ok-find_state-clause-same
returns-in-Ok-find_state-clause-same g c = c.read.ensures.same

pub returns-in-Err-clause-same : goal.returns-in-Err-clause-same
returns-in-Err-clause-same g c = c.read.ensures.same

-- ---- what was found

pub returns-in-Ok-find_state-clause-found : goal.returns-in-Ok-find_state-clause-found
returns-in-Ok-find_state-clause-found g c h =
    let store = bytes_under (g.D.Disk.model.folder c.args.disk.now) Store in
    let found = c.in-Ok-find_state.field-0 in
    subst (λ several. FileRecoversTo several store found.state found.opened.commands found.opened.dropped)
    (c.noted_on-waiting.ensures h)
    (c.in-Ok-find_state.ensures.ok store (c.in-Ok.ensures.content h)).recovers

pub returns-in-Ok-find_state-clause-means : goal.returns-in-Ok-find_state-clause-means
returns-in-Ok-find_state-clause-means g c h =
    let store = bytes_under (g.D.Disk.model.folder c.args.disk.now) Store in
    subst (λ several. FileMeans several store c.in-Ok-find_state.field-0.state) (c.noted_on-waiting.ensures h)
    (found-means (is_several c.noted_on-waiting.result) store _ _ _ _ (c.in-Ok-find_state.ensures.ok store (c.in-Ok.ensures.content h)))

pub returns-in-Err-clause-refused : goal.returns-in-Err-clause-refused
returns-in-Err-clause-refused g c h =
    let store = bytes_under (g.D.Disk.model.folder c.args.disk.now) Store in
    subst (λ several. RefusesOpening c.in-Err.fault several store) (c.noted_on-waiting.ensures h)
    (c.in-Err.ensures.refused store (c.in-Ok.ensures.content h))

pub returns-in-Err-clause-no_meaning : goal.returns-in-Err-clause-no_meaning
returns-in-Err-clause-no_meaning g c h =
    let folder = g.D.Disk.model.folder c.args.disk.now in
    refused-nothing c.bytes_mean_one_state.ensures.refused c.in-Err.fault (several_waited folder) (bytes_under folder Store)
    (returns-in-Err-clause-refused g c h)
