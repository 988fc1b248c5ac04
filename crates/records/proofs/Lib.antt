mod Decodings
