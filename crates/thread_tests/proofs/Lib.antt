mod RingLemmas
