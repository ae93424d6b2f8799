mod Rungs
