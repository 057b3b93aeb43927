mod CutLemmas
